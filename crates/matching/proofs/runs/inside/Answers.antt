use Rattle.std.proofs.Common.{rules}
use Rattle.std.proofs.iter.runs.Made.{chains}
use Rattle.matching.proofs.runs.inside.Goals as goal

pub returns : goal.returns
returns c = record { few = search (rules, chains); run = search (rules, chains); stop = search (rules, chains) }
