use Rattle.std.proofs.Common.{◌+◌, ◌-◌, length}
use Rattle.patterns.specs.View.{item_of}
use Rattle.matching.proofs.Rows.{Halfway}
use Rattle.matching.proofs.reach.steps.advance.Given as goal

abbrev pub invariant-loop-place : goal.invariant-loop-place
invariant-loop-place l = Halfway (item_of l.item) l.line l.initial.row l.row l.place l.led l.next

abbrev pub decreases-loop-place : goal.decreases-loop-place
decreases-loop-place l = length l.line + 2 - l.place
