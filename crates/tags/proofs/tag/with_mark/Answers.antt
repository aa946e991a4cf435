use Rattle.std.proofs.Common.{ℕ, ◌+◌, ◌^◌, ◌<◌, ◌≤◌, true, [], sym, ap, ◌∙◌, arith}
use Rattle.command.specs.Marks.{bit_of}
use Rattle.rules.specs.Lines.{seen}
use Rattle.tags.proofs.Bearing.{same_mark, more_mark, more-below}
use Rattle.tags.proofs.tag.with_mark.Goals as goal

pub returns-then-has_mark : goal.returns-then-has_mark
returns-then-has_mark c = record {
  seen = λ t. same_mark t c.args.tag (bit_of c.args.mark.letter) (omega arith) true (sym (c.if-has_mark.ensures t));
  defined = λ h. h;
}

below : (c : goal.After-only_mark) (n : ℕ) → 26 ≤ n → c.args.tag < 2 ^ n → c.args.tag + 2 ^ bit_of c.args.mark.letter < 2 ^ n
below c n le h =
    more-below [] c.args.tag (bit_of c.args.mark.letter) (omega arith) n le (sym (c.if-has_mark.ensures [])) h

pub overflow_add-result : goal.overflow_add-result
overflow_add-result c = let fits = below c 32 (omega arith) (omega arith) in omega arith

pub returns : goal.returns
returns c = record {
  seen = λ t. ap (λ p. seen (record { text = t; tag = c.args.tag + p })) c.only_mark.ensures
      ∙ more_mark t c.args.tag (bit_of c.args.mark.letter) (omega arith) (sym (c.if-has_mark.ensures t));
  defined = λ h. let fits = below c 27 (omega arith) h in omega arith;
}
