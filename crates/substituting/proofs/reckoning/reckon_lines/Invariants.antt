use Rattle.std.proofs.Common.{◌-◌}
use Rattle.command.specs.View.{substitution_view}
use Rattle.ranges.specs.Spans.{span_of}
use Rattle.substituting.proofs.Summing.{Partial}
use Rattle.substituting.proofs.reckoning.reckon_lines.Given as goal

abbrev pub invariant-loop-n : goal.invariant-loop-n
invariant-loop-n g l = Partial (substitution_view l.rule.substitution) (span_of l.range) (g.T.LineStore.meaning l.text) l.sum (l.n - 1)
