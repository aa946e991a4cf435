use Rattle.std.proofs.Common.{rules}
use Rattle.editing.proofs.Steps.{unswapped, count-swapped, raised_more}
use Rattle.editing.proofs.blocks.raise_range.Goals as goal

pub loop-i-init : goal.loop-i-init
loop-i-init g c = search (rules, unswapped)

pub loop-i-preserved : goal.loop-i-preserved
loop-i-preserved g c = search (rules, raised_more)

pub shift_line-requires : goal.shift_line-requires
shift_line-requires g c = search (rules, count-swapped)
