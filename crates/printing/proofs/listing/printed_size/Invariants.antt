use Rattle.std.proofs.Common.{◌≡◌, ◌+◌, ◌*◌, ◌≤◌, length}
use Rattle.printing.proofs.Ranging.{left}
use Rattle.printing.proofs.listing.printed_size.Given as goal

abbrev pub invariant-loop-i : goal.invariant-loop-i
invariant-loop-i g l =
    (l.size ≤ 256 * l.i)
    × (l.size + length (left (g.T.LineStore.meaning l.text) l.i l.i-end)
    ≡ length (left (g.T.LineStore.meaning l.text) l.initial.i l.i-end))
