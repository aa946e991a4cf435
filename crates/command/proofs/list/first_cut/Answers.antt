use Rattle.std.proofs.Common.{rules}
use Rattle.std.proofs.iter.runs.Made.{chains}
use Rattle.command.proofs.Cuts.{commands_first}
use Rattle.command.proofs.list.first_cut.Goals as goal

pub returns : goal.returns
returns c = commands_first c.args.list.now c.position.result (search (rules, chains))
