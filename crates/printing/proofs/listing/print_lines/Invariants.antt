use Rattle.std.proofs.Common.{◌≡◌, ◌+◌, length}
use Rattle.printing.specs.Sheets.{written}
use Rattle.printing.proofs.Ranging.{left}
use Rattle.printing.proofs.listing.print_lines.Given as goal

abbrev pub invariant-loop-i : goal.invariant-loop-i
invariant-loop-i g l =
    (l.place + length (left (g.T.LineStore.meaning l.text) l.i l.i-end)
    ≡ l.at + length (left (g.T.LineStore.meaning l.text) l.initial.i l.i-end))
    × (written l.sheet l.place (left (g.T.LineStore.meaning l.text) l.i l.i-end)
    ≡ written l.initial.sheet l.at (left (g.T.LineStore.meaning l.text) l.initial.i l.i-end))
