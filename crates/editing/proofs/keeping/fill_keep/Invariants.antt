use Rattle.std.proofs.Common.{◌≡◌, length, take}
use Rattle.rules.specs.Lines.{seen_lines, unchosen}
use Rattle.editing.proofs.keeping.fill_keep.Given as goal

abbrev pub invariant-loop-i : goal.invariant-loop-i
invariant-loop-i g l =
    let have = g.K.LineStore.meaning l.keep in
    (seen_lines have ≡ unchosen (take l.i (seen_lines (g.T.LineStore.meaning l.text))))
    × (length have.lines ≡ l.i)
    × (have.capacity ≡ (g.K.LineStore.meaning l.initial.keep).capacity)
