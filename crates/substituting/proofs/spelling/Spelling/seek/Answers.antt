use Rattle.std.proofs.Common.{refl, sym}
use Rattle.std.proofs.lemmas.List.{take_rest}
use Rattle.command.specs.View.{substitution_view}
use Rattle.substituting.proofs.Through.{finished, passed, replaces}
use Rattle.substituting.proofs.spelling.Spelling.seek.Goals as goal

pub returns-in_default : goal.returns-in_default
returns-in_default c =
    let p = c.args.self.now in
    finished (substitution_view p.rule.now.substitution) p.text.bytes.now c.args.cursor _ c.requires.filled c.in_default.ensures
    (take_rest p.text.bytes.now c.args.cursor.at)

pub returns-then-is_empty_again : goal.returns-then-is_empty_again
returns-then-is_empty_again c =
    let p = c.args.self.now in
    let w = c.in-Some.ensures in
    passed (substitution_view p.rule.now.substitution) p.text.bytes.now c.args.cursor c.pass.result c.in-Some.run' _ c.requires.filled c.requires.placed
    w.0 w.1 (sym c.if-is_empty_again.ensures) w.2 refl c.pass.ensures

pub returns : goal.returns
returns c =
    let p = c.args.self.now in
    let w = c.in-Some.ensures in
    replaces (substitution_view p.rule.now.substitution) p.text.bytes.now c.args.cursor c.replace.result c.in-Some.run' _ c.requires.filled
    w.0 w.1 (sym c.if-is_empty_again.ensures) w.4 refl c.replace.ensures
