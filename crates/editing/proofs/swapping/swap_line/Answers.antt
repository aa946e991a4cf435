use Rattle.std.proofs.Common.{rules}
use Rattle.editing.proofs.Exchanging.{set_line}
use Rattle.editing.proofs.swapping.swap_line.Goals as goal

pub returns-clause-text : goal.returns-clause-text
returns-clause-text g c = search (rules, set_line)

pub returns-clause-keep : goal.returns-clause-keep
returns-clause-keep g c = search (rules, set_line)
