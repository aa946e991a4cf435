use Rattle.std.proofs.Common.{rules}
use Rattle.filing.proofs.Adding.{add_none}
use Rattle.filing.proofs.writing.add_range.Goals as goal

pub returns-in_default : goal.returns-in_default
returns-in_default g c = search (rules, add_none)
