use Rattle.rules.proofs.turns.turns_are_fair.Goals as goal
use Rattle.rules.proofs.Fairness.{globals_fair, global-lines-fair}

pub returns : goal.returns
returns c = record { fair = globals_fair; lines = global-lines-fair }
