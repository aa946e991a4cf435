use Rattle.std.proofs.Common.{◌≡◌}
use Rattle.editing.specs.Shapes.{without}
use Rattle.editing.proofs.blocks.take_lines.Given as goal

abbrev pub invariant-loop : goal.invariant-loop
invariant-loop g l = g.T.LineStore.meaning l.text ≡ without (g.T.LineStore.meaning l.initial.text) l.first l.counter
