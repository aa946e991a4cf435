use Rattle.std.proofs.Common.{true, false, rules, ap, ◌∙◌}
use Rattle.rules.specs.Lines.{on_line, with_mark}
use Rattle.command.specs.Marks.{bit_of}
use Rattle.tags.proofs.marks.set_mark.Goals as goal

pub returns-clause-lines : goal.returns-clause-lines
returns-clause-lines g c =
    c.change_tag.ensures.lines (with_mark (bit_of c.args.mark.letter) true) (λ t r k p. search rules)
    ∙ ap (on_line c.args.n (with_mark (bit_of c.args.mark.letter) true)) (c.change_all.ensures.lines (with_mark (bit_of c.args.mark.letter) false) (λ t r k p. search rules))
