use Rattle.std.proofs.Common.{◌+◌, ◌-◌, length, vec_items, rules}
use Rattle.chain_store.specs.Kept.{new_kept}
use Rattle.chain_store.proofs.store.ChainStore.new.Goals as goal

pub invariant_of-result : goal.invariant_of-result
invariant_of-result c =
    let k = new_kept (vec_items c.in_ok-links.links) (length (vec_items c.in_ok-slots.slots)) (c.args.capacity + 2 - 1) (search rules) (search rules) (search rules) (search rules) in
    record { some = k.some; bounded = k.bounded; long = k.long; room = k.room; within = k.within; apart = k.apart; parted = k.parted }
