use Rattle.command.specs.View.{substitution_view}
use Rattle.substituting.specs.Spelling.{weight_from}
use Rattle.substituting.proofs.Writing.{Partly}
use Rattle.substituting.proofs.spelling.Spelling.spell.Given as goal

abbrev pub invariant-loop-bytes : goal.invariant-loop-bytes
invariant-loop-bytes l = Partly (substitution_view l.self.rule.now.substitution) l.self.text.bytes.now l.from l.here l.line

abbrev pub decreases-loop-bytes : goal.decreases-loop-bytes
decreases-loop-bytes l = weight_from (substitution_view l.self.rule.now.substitution) l.here
