use Rattle.std.proofs.Common.{length}
use Rattle.substituting.specs.Rest.{lines_of, rest_of}
use Rattle.substituting.proofs.Placing.{Left}
use Rattle.substituting.proofs.rewriting.put_lines.Given as goal

abbrev pub invariant-loop-lines : goal.invariant-loop-lines
invariant-loop-lines g l =
    Left (lines_of l.initial.lines) (g.T.LineStore.meaning l.initial.text) (g.T.LineStore.meaning l.text) l.initial.done l.done (rest_of l.lines)

abbrev pub decreases-loop-lines : goal.decreases-loop-lines
decreases-loop-lines g l = length (rest_of l.lines)
