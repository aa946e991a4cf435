use Rattle.std.proofs.Common.{◌≡◌, ℕ, ◌+◌, ◌*◌, ◌≤◌, length}
use Rattle.command.specs.View.{base_view, address_view}
use Rattle.reading.specs.Addresses.{offsets_at, only}
use Rattle.reading.proofs.reader.Reader.offsets.Given as goal

-- the offsets so far keep the sums small, and what is left, read on behind them, is what the whole is read as
abbrev pub invariant-loop-sign : goal.invariant-loop-sign
invariant-loop-sign l =
    (l.address.ahead + l.address.back + 65535 * length l.self.rest.now ≤ 65535000)
    × ((n : ℕ) × (length l.self.rest.now ≤ n)
    × (offsets_at n (address_view l.address) l.self.rest.now
    ≡ offsets_at (length l.fn.self.rest.now) (only (base_view l.base)) l.fn.self.rest.now))

abbrev pub decreases-loop-sign : goal.decreases-loop-sign
decreases-loop-sign l = length l.self.rest.now
