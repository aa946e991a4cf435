use Rattle.std.proofs.Common.{◌≡◌, ◌+◌, ◌-◌}
use Rattle.matching.specs.Matching.{match_from}
use Rattle.matching.specs.Rows.{NoneReached}
use Rattle.patterns.specs.View.{meaning}
use Rattle.matching.proofs.search.first_match.Given as goal

-- no start so far fits
abbrev pub invariant-loop-start : goal.invariant-loop-start
invariant-loop-start l = (match_from (meaning l.pattern) l.line l.start ≡ match_from (meaning l.pattern) l.line l.initial.start) × NoneReached l.row

abbrev pub decreases-loop-start : goal.decreases-loop-start
decreases-loop-start l = l.last + 1 - l.start
