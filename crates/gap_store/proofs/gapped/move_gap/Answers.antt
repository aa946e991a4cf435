use Rattle.std.proofs.Common.{rules}
use Rattle.gap_store.specs.Moves.{moved_down, moved_up}
use Rattle.gap_store.proofs.gapped.move_gap.Goals as goal

pub returns-then-at-start : goal.returns-then-at-start
returns-then-at-start g c = search (rules, moved_down)

pub returns-else-at-start : goal.returns-else-at-start
returns-else-at-start g c = search (rules, moved_up)
