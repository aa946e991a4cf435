use Rattle.std.proofs.Common.{rules}
use Rattle.editing.proofs.Steps.{without_none, without_more, count-without}
use Rattle.editing.proofs.blocks.take_lines.Goals as goal

pub loop-init : goal.loop-init
loop-init g c = search (rules, without_none)

pub loop-preserved : goal.loop-preserved
loop-preserved g c = search (rules, without_more)

pub take_line-requires : goal.take_line-requires
take_line-requires g c = search (rules, count-without)
