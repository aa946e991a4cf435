use Rattle.std.proofs.Common.{◌≡◌}
use Rattle.editing.specs.Shapes.{with_swapped}
use Rattle.editing.proofs.blocks.raise_range.Given as goal

abbrev pub invariant-loop-i : goal.invariant-loop-i
invariant-loop-i g l = g.T.LineStore.meaning l.text ≡ with_swapped (g.T.LineStore.meaning l.initial.text) l.behind l.start l.i
