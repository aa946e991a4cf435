use Rattle.chain_store.proofs.Changes.{tag_store}
use Rattle.std.proofs.Common.{refl}
use Rattle.chain_store.proofs.store.ChainStore.tag_line.Goals as goal

pub returns : goal.returns
returns c = tag_store c.args.self.now c.args.n c.find-i.result c.find-i.ensures c.index_mut.result.now _ c.index_mut.ensures.value c.args.tag refl
