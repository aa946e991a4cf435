use Rattle.std.proofs.Common.{◌≡◌, ℕ, ◌≤◌, length}
use Rattle.patterns.specs.Bits.{table_of}
use Rattle.patterns.specs.Reading.{members_at, inside_at}
use Rattle.patterns.proofs.pattern.reader.Reader.inside.Given as goal

-- what is left, read on with the set so far, is what the whole is read as
abbrev pub invariant-loop-self : goal.invariant-loop-self
invariant-loop-self l =
    (n : ℕ) × (length l.self.rest.now ≤ n)
    × (members_at n l.first (table_of l.set.words) l.self.rest.now ≡ inside_at l.initial.self.rest.now)

abbrev pub decreases-loop-self : goal.decreases-loop-self
decreases-loop-self l = length l.self.rest.now
