use Rattle.std.proofs.Common.{◌≡◌, vec_items, arith, rules}
use Rattle.std.specs.Vec.{with_items}
use Rattle.std.proofs.lemmas.List.{with_items_is}
use Rattle.chain_store.specs.Chain.{relinked}
use Rattle.chain_store.proofs.Changes.{remove_now}
use Rattle.chain_store.proofs.store.ChainStore.remove_line.Goals as goal

pub invariant_of-self : goal.invariant_of-self
invariant_of-self c =
    let s = c.args.self.now in
    let after = vec_items (with_items s.links c.relink.new.links) in
    let r : after ≡ relinked (vec_items s.links) c.number_at-place.result 1 = search (rules, with_items_is) in
    let k = (remove_now s c.args.n c.number_at-place.result (omega arith) (omega arith) c.number_at-place.ensures.value after r).kept in
    record { some = k.some; bounded = k.bounded; long = k.long; room = k.room; within = k.within; apart = k.apart; parted = k.parted }

pub returns : goal.returns
returns c =
    let s = c.args.self.now in
    let after = vec_items (with_items s.links c.relink.new.links) in
    let r : after ≡ relinked (vec_items s.links) c.number_at-place.result 1 = search (rules, with_items_is) in
    let d = remove_now s c.args.n c.number_at-place.result (omega arith) (omega arith) c.number_at-place.ensures.value after r in
    search rules
