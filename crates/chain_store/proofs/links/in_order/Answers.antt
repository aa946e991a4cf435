use Rattle.std.proofs.Common.{ℕ, ◌-◌, Ok, refl, rules}
use Rattle.std.proofs.lemmas.Iterator.{YieldsList-from_range}
use Rattle.std.proofs.lemmas.Iterator.Adapters.{items_from_extend}
use Rattle.chain_store.proofs.links.in_order.Goals as goal

pub returns : goal.returns
returns c =
    let h = items_from_extend {E = ℕ} (Ok c.in_ok-extend.field-0) c.in_ok-extend.ensures.ran (YieldsList-from_range 1 c.args.count (c.args.count - 1) refl refl) in
    search rules
