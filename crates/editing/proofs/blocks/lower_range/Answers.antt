use Rattle.std.proofs.Common.{rules}
use Rattle.editing.proofs.Steps.{swapped_none, count-swapped, lowered_more}
use Rattle.editing.proofs.blocks.lower_range.Goals as goal

pub loop-init : goal.loop-init
loop-init g c = search (rules, swapped_none)

pub loop-preserved : goal.loop-preserved
loop-preserved g c = search (rules, lowered_more)

pub shift_line-requires : goal.shift_line-requires
shift_line-requires g c = search (rules, count-swapped)
