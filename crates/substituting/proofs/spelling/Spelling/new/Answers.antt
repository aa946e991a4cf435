use Rattle.std.proofs.Common.{refl}
use Rattle.command.specs.View.{substitution_view}
use Rattle.substituting.proofs.Through.{started, no_bits}
use Rattle.substituting.proofs.spelling.Spelling.new.Goals as goal

pub returns : goal.returns
returns c = started (substitution_view c.args.rule.now.substitution) c.args.text.bytes.now _ no_bits refl refl refl c.searches.ensures
