use Rattle.std.proofs.Common.{◌≡◌, length}
use Rattle.std.specs.List.{fold}
use Rattle.substituting.specs.Reckoning.{reckoned_line}
use Rattle.substituting.specs.Rest.{rest_of}
use Rattle.substituting.proofs.reckoning.Reckoned.with_lines.Given as goal

abbrev pub invariant-loop-lines : goal.invariant-loop-lines
invariant-loop-lines l = fold reckoned_line l.sum (rest_of l.lines) ≡ fold reckoned_line l.initial.sum (rest_of l.initial.lines)

abbrev pub decreases-loop-lines : goal.decreases-loop-lines
decreases-loop-lines l = length (rest_of l.lines)
