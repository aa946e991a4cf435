use Rattle.tags.proofs.Changing.{told}
use Rattle.tags.proofs.one_line.chosen_at.Goals as goal

pub returns : goal.returns
returns g c =
    told (g.T.LineStore.meaning c.args.text.now) c.args.n c.tag.result c.is_chosen.result (λ l. l.chosen)
    c.tag.ensures.value c.is_chosen.ensures
