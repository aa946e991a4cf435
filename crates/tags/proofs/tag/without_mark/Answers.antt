use Rattle.std.proofs.Common.{◌-◌, false, [], sym, ap, ◌∙◌, arith}
use Rattle.command.specs.Marks.{bit_of}
use Rattle.rules.specs.Lines.{seen}
use Rattle.tags.proofs.Bearing.{same_mark, bit-within, less_mark}
use Rattle.tags.proofs.tag.without_mark.Goals as goal

pub overflow_sub-result : goal.overflow_sub-result
overflow_sub-result c =
    let within = bit-within [] c.args.tag (bit_of c.args.mark.letter) (omega arith) (sym (c.if-has_mark.ensures [])) in
    omega arith

pub returns-then-has_mark : goal.returns-then-has_mark
returns-then-has_mark c = record {
  seen = λ t. ap (λ p. seen (record { text = t; tag = c.args.tag - p })) c.only_mark.ensures
      ∙ less_mark t c.args.tag (bit_of c.args.mark.letter) (omega arith) (sym (c.if-has_mark.ensures t));
  defined = λ h. omega arith;
}

pub returns : goal.returns
returns c = record {
  seen = λ t. same_mark t c.args.tag (bit_of c.args.mark.letter) (omega arith) false (sym (c.if-has_mark.ensures t));
  defined = λ h. h;
}
