use Rattle.std.proofs.Common.{◌≡◌, length}
use Rattle.rules.specs.Lines.{Line}
use Rattle.tags.specs.Changing.{Means}
use Rattle.tags.proofs.Changing.{Walked}
use Rattle.tags.proofs.one_line.change_all.Given as goal

abbrev pub invariant-loop-i : goal.invariant-loop-i
invariant-loop-i g l = record {
  count : length (g.T.LineStore.meaning l.text).lines ≡ length (g.T.LineStore.meaning l.initial.text).lines;
  capacity : (g.T.LineStore.meaning l.text).capacity ≡ (g.T.LineStore.meaning l.initial.text).capacity;
  walked : (f : Line → Line) → Means (goal.F-post g l.change) f → Walked f l.i (g.T.LineStore.meaning l.initial.text) (g.T.LineStore.meaning l.text);
}
