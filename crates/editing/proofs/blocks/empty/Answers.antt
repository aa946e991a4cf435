use Rattle.std.proofs.Common.{rules}
use Rattle.std.proofs.lemmas.List.{take_all}
use Rattle.editing.proofs.Steps.{emptied_more}
use Rattle.editing.proofs.blocks.empty.Goals as goal

pub loop-i-init : goal.loop-i-init
loop-i-init g c = search (rules, take_all)

pub loop-i-preserved : goal.loop-i-preserved
loop-i-preserved g c = search (rules, emptied_more)
