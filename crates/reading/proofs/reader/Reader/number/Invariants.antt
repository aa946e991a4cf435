use Rattle.std.proofs.Common.{◌≡◌, ◌<◌, ◌≤◌, length}
use Rattle.reading.specs.Addresses.{digits_at}
use Rattle.reading.proofs.reader.Reader.number.Given as goal

-- what is left, read on from the value so far, is what the whole is read as
abbrev pub invariant-loop-digit : goal.invariant-loop-digit
invariant-loop-digit l =
    (l.value ≤ 65535) × (digits_at l.value l.self.rest.now ≡ digits_at 0 l.fn.self.rest.now)
    × (length l.self.rest.now < length l.fn.self.rest.now)

abbrev pub decreases-loop-digit : goal.decreases-loop-digit
decreases-loop-digit l = length l.self.rest.now
