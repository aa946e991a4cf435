use Rattle.std.proofs.Common.{rules}
use Rattle.rules.specs.Lines.{choosing}
use Rattle.tags.proofs.chosen.set_chosen.Goals as goal

pub returns-clause-lines : goal.returns-clause-lines
returns-clause-lines g c = c.change_tag.ensures.lines (choosing c.args.chosen) (λ t r k p. search rules)
