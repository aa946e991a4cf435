use Rattle.std.proofs.Common.{◌≡◌, ◌<◌, length, get_or}
use Rattle.chain_store.specs.Chain.{chain}
use Rattle.chain_store.proofs.links.walk.Given as goal

abbrev pub invariant-loop : goal.invariant-loop
invariant-loop l = (l.at ≡ get_or (chain l.links) l.counter 0) × (l.at < length l.links)
