use Rattle.rules.proofs.turns.turns_are_dealt.Goals as goal
use Rattle.rules.proofs.Fairness.{globals_dealt, global-lines-dealt}

pub returns : goal.returns
returns c = record { dealt = globals_dealt; lines = global-lines-dealt }
