use Rattle.rules.proofs.settled.sessions_settle.Goals as goal
use Rattle.rules.proofs.Settling.{sessions_settled}

pub returns : goal.returns
returns c = sessions_settled
