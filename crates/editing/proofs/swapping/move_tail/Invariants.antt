use Rattle.std.proofs.Common.{◌≡◌, ◌+◌, ◌++◌}
use Rattle.std.specs.List.{between}
use Rattle.lines.specs.Store.{with_lines}
use Rattle.editing.specs.Shapes.{without}
use Rattle.editing.proofs.swapping.move_tail.Given as goal

abbrev pub invariant-loop-i : goal.invariant-loop-i
invariant-loop-i g l =
    let was = g.T.LineStore.meaning l.initial.from in
    let had = g.K.LineStore.meaning l.initial.to in
    (g.T.LineStore.meaning l.from ≡ without was (l.at + 1) l.i)
    × (g.K.LineStore.meaning l.to ≡ with_lines had (had.lines ++ between l.at l.i was.lines))
