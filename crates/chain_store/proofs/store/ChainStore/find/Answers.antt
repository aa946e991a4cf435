use Rattle.std.proofs.Common.{arith}
use Rattle.chain_store.specs.Fields.{number_of-slot, found}
use Rattle.chain_store.proofs.store.ChainStore.find.Goals as goal

pub overflow_sub-result : goal.overflow_sub-result
overflow_sub-result c = number_of-slot c.args.self.now c.args.n _ (omega arith) (omega arith) c.number_at.ensures.value

pub returns : goal.returns
returns c = found c.args.self.now c.args.n _ (omega arith) (omega arith) c.number_at.ensures.value
