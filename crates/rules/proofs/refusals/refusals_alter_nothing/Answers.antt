use Rattle.rules.proofs.Refusing.{refusals_alter_nothing_lem}
use Rattle.rules.proofs.refusals.refusals_alter_nothing.Goals as goal

pub returns : goal.returns
returns c = refusals_alter_nothing_lem
