use Rattle.std.proofs.Common.{◌≡◌, vec_items, rules}
use Rattle.std.specs.Vec.{with_items}
use Rattle.std.proofs.lemmas.List.{with_items_is}
use Rattle.chain_store.specs.Chain.{relinked}
use Rattle.chain_store.proofs.Changes.{put-slot, put_now}
use Rattle.chain_store.proofs.store.ChainStore.put_line.Goals as goal

pub overflow_sub-free : goal.overflow_sub-free
overflow_sub-free c =
    (put-slot c.args.self.now c.args.behind c.number_at-place.result c.index.result.now c.requires.place c.requires.room c.number_at-place.ensures.value c.index.ensures).0

pub invariant_of-self : goal.invariant_of-self
invariant_of-self c =
    let s = c.args.self.now in
    let after = vec_items (with_items s.links c.relink.new.links) in
    let r : after ≡ relinked (vec_items s.links) 1 c.number_at-place.result = search (rules, with_items_is) in
    let d = put_now s c.args.behind c.number_at-place.result c.index.result.now c.requires.place c.requires.room c.number_at-place.ensures.value c.index.ensures after c.fill.new.self r in
    let k = d.kept in
    record { some = k.some; bounded = k.bounded; long = k.long; room = k.room; within = k.within; apart = k.apart; parted = k.parted }

pub returns : goal.returns
returns c =
    let s = c.args.self.now in
    let after = vec_items (with_items s.links c.relink.new.links) in
    let r : after ≡ relinked (vec_items s.links) 1 c.number_at-place.result = search (rules, with_items_is) in
    let d = put_now s c.args.behind c.number_at-place.result c.index.result.now c.requires.place c.requires.room c.number_at-place.ensures.value c.index.ensures after c.fill.new.self r in
    search rules
