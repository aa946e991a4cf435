use Rattle.std.proofs.Common.{rules}
use Rattle.chain_store.specs.Follow.{chain_next}
use Rattle.chain_store.proofs.links.walk.Goals as goal

pub loop-preserved : goal.loop-preserved
loop-preserved c = search (rules, chain_next)
