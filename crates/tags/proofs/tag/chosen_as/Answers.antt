use Rattle.std.proofs.Common.{Bool, sym, ap, ◌∙◌}
use Rattle.rules.specs.Lines.{seen, choosing}
use Rattle.tags.proofs.tag.chosen_as.Goals as goal

pub returns-then-chosen : goal.returns-then-chosen
returns-then-chosen c = record {
  seen = λ t. c.with_chosen.ensures.seen t ∙ ap (λ (b : Bool). choosing b (seen (record { text = t; tag = c.args.tag }))) (sym c.if-chosen.true);
  defined = λ h. c.with_chosen.ensures.defined;
}

pub returns-else-chosen : goal.returns-else-chosen
returns-else-chosen c = record {
  seen = λ t. c.without_chosen.ensures.seen t ∙ ap (λ (b : Bool). choosing b (seen (record { text = t; tag = c.args.tag }))) (sym c.if-chosen.false);
  defined = c.without_chosen.ensures.defined;
}
