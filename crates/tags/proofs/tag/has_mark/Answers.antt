use Rattle.std.proofs.Common.{◌/◌, ◌%◌, ◌^◌, eqb, sym, ap, ◌∙◌, arith}
use Rattle.std.proofs.lemmas.Nat.{and_mask}
use Rattle.command.specs.Marks.{bit_of}
use Rattle.tags.proofs.Bearing.{mark_bit}
use Rattle.tags.proofs.tag.has_mark.Goals as goal

pub returns : goal.returns
returns c =
    λ t. ap (λ x. eqb x 1) (and_mask (c.args.tag / 2 ^ c.bit.result) 1)
    ∙ ap (λ k. eqb (c.args.tag / 2 ^ k % 2) 1) c.bit.ensures.value
    ∙ sym (mark_bit t c.args.tag (bit_of c.args.mark.letter) (omega arith))
