use Rattle.std.proofs.Common.{Some, sym, subst}
use Rattle.command.specs.View.{substitution_view}
use Rattle.substituting.specs.declared.cursor.Token.{Token}
use Rattle.substituting.specs.Spelling.{Stepped}
use Rattle.substituting.proofs.Through.{with_bits, bit-done}
use Rattle.substituting.proofs.spelling.Spelling.step.Goals as goal

pub returns-in-Some : goal.returns-in-Some
returns-in-Some c =
    let s = substitution_view c.args.self.now.rule.now.substitution in
    let t = c.args.self.now.text.bytes.now in
    let k = c.args.cursor in
    subst (λ (x : Token). Stepped s t k (record { token = x; next = Some (with_bits k c.in-Some.bits) })) (sym c.token_of.ensures)
    (bit-done s t k c.in-Some.bit c.in-Some.bits c.requires.placed c.in-Some.ensures)
