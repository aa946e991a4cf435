use Rattle.std.proofs.Common.{◌-◌}
use Rattle.command.specs.View.{substitution_view}
use Rattle.ranges.specs.Spans.{span_of}
use Rattle.substituting.proofs.Underway.{Underway}
use Rattle.substituting.proofs.rewriting.rewrite_lines.Given as goal

abbrev pub invariant-loop : goal.invariant-loop
invariant-loop g l =
    Underway (substitution_view l.rule.substitution) (span_of l.fn.range) (g.T.LineStore.meaning l.initial.text) (g.T.LineStore.meaning l.text) (l.counter - 1) l.done
