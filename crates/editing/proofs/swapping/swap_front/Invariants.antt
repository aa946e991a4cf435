use Rattle.std.proofs.Common.{◌≡◌}
use Rattle.editing.specs.Shapes.{fronted}
use Rattle.editing.proofs.swapping.swap_front.Given as goal

abbrev pub invariant-loop-i : goal.invariant-loop-i
invariant-loop-i g l =
    let was = g.T.LineStore.meaning l.initial.text in
    let had = g.K.LineStore.meaning l.initial.keep in
    (g.T.LineStore.meaning l.text ≡ fronted was l.i had) × (g.K.LineStore.meaning l.keep ≡ fronted had l.i was)
