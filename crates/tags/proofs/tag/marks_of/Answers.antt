use Rattle.std.proofs.Common.{rules}
use Rattle.tags.proofs.Bearing.{chosen-tag, unchosen-tag}
use Rattle.tags.proofs.tag.marks_of.Goals as goal

pub returns : goal.returns
returns c = record { below = search rules; bare = λ t. unchosen-tag t c.args.tag; chosen = λ t. chosen-tag t c.args.tag }
