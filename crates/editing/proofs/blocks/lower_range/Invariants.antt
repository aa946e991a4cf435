use Rattle.std.proofs.Common.{◌≡◌, ◌-◌}
use Rattle.editing.specs.Shapes.{with_swapped}
use Rattle.editing.proofs.blocks.lower_range.Given as goal

abbrev pub invariant-loop : goal.invariant-loop
invariant-loop g l =
    g.T.LineStore.meaning l.text ≡ with_swapped (g.T.LineStore.meaning l.initial.text) (l.range.first - 1) l.counter l.behind
