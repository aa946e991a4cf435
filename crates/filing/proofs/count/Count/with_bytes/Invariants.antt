use Rattle.std.proofs.Common.{◌≡◌, ◌+◌, ◌≤◌, drop}
use Rattle.filing.specs.Counting.{counted}
use Rattle.filing.proofs.count.Count.with_bytes.Given as goal

-- what is left is counted on
abbrev pub invariant-loop-b : goal.invariant-loop-b
invariant-loop-b l =
    (counted l.sum (drop l.b-index l.bytes) ≡ counted l.initial.sum l.bytes)
    × (l.sum.ended ≤ l.initial.sum.ended + l.b-index)
    × (l.sum.pending ≤ l.initial.sum.pending + l.b-index)
