use Rattle.std.proofs.Common.{◌≡◌, take}
use Rattle.lines.specs.Store.{with_lines}
use Rattle.editing.proofs.blocks.empty.Given as goal

abbrev pub invariant-loop-i : goal.invariant-loop-i
invariant-loop-i g l =
    g.T.LineStore.meaning l.text ≡ with_lines (g.T.LineStore.meaning l.initial.text) (take l.i (g.T.LineStore.meaning l.initial.text).lines)
