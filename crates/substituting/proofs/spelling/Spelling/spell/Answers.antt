use Rattle.std.proofs.Common.{[], ◌∷◌, ap, ◌∙◌}
use Rattle.command.specs.View.{substitution_view}
use Rattle.substituting.specs.declared.cursor.Token.{Token}
use Rattle.substituting.specs.Spelling.{ahead}
use Rattle.substituting.proofs.Writing.{emptied, continued}
use Rattle.substituting.proofs.spelling.Spelling.spell.Goals as goal
use Rattle.substituting.proofs.spelling.Spelling.spell.Goals.{in-Run, in-Byte}

pub loop-bytes-init : goal.loop-bytes-init
loop-bytes-init c =
    let p = c.args.self.now in
    emptied (substitution_view p.rule.now.substitution) p.text.bytes.now c.args.from c.empty.new.line c.empty.ensures c.requires.placed

pub loop-bytes-preserved : goal.loop-bytes-preserved
loop-bytes-preserved c =
    let p = c.args.self.now in
    let go = continued (substitution_view p.rule.now.substitution) p.text.bytes.now c.args.from c.loop-bytes.here c.loop-bytes.line c.step.result
    c.loop-bytes.invariant c.step.ensures c.in_ok-here.here c.match-token.line in
    elim c.match-token.branch [
      | in-Run w ↦ go w.in-Run.bytes.now (λ ls. ap (λ (k : Token). ahead k ls) w.in-Run.is) c.in_ok-here.was (w.line-is ∙ w.add.ensures)
      | in-Byte w ↦ go (w.in-Byte.byte ∷ []) (λ ls. ap (λ (k : Token). ahead k ls) w.in-Byte.is) c.in_ok-here.was (w.line-is ∙ w.add-in-Byte.ensures)
    ]
