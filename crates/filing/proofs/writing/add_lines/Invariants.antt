use Rattle.std.proofs.Common.{◌≡◌, Ok}
use Rattle.shelf.specs.Shelf.{add_answer, add_after}
use Rattle.printing.proofs.Ranging.{left}
use Rattle.filing.proofs.writing.add_lines.Given as goal

-- what is left is taken, and leads to the same shelf
abbrev pub invariant-loop-i : goal.invariant-loop-i
invariant-loop-i g l =
    let text = g.T.LineStore.meaning l.text in
    let was = g.S.Shelf.meaning l.initial.shelf in
    let is = g.S.Shelf.meaning l.shelf in
    (add_answer is l.file (left text l.i l.i-end) ≡ Ok tt)
    × (add_after is l.file (left text l.i l.i-end) ≡ add_after was l.file (left text l.initial.i l.i-end))
