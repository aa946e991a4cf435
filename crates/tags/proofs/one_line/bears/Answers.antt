use Rattle.rules.specs.Lines.{has_mark}
use Rattle.command.specs.Marks.{bit_of}
use Rattle.tags.specs.Bearing.{bearing}
use Rattle.tags.proofs.Changing.{told}
use Rattle.tags.proofs.one_line.bears.Goals as goal

pub returns : goal.returns
unfolding bearing
returns g c =
    told (g.T.LineStore.meaning c.args.text.now) c.args.n c.tag.result c.has_mark.result
    (has_mark (bit_of c.args.mark.letter)) c.tag.ensures.value c.has_mark.ensures
