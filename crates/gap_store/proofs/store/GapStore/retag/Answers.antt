use Rattle.std.proofs.Common.{◌+◌, ◌-◌, ◌≤◌, length, vec_items, rules}
use Rattle.std.proofs.lemmas.List.{length-set}
use Rattle.gap_store.specs.Meaning.{meaning_of}
use Rattle.gap_store.specs.Stored.{written, meaning_as, front_as, behind_as, each_as, count_of, retag_front, retag_behind, retag-lines, retag_each}
use Rattle.gap_store.proofs.store.GapStore.retag.Goals as goal

pub invariant_of-self : goal.invariant_of-self
unfolding meaning_of
invariant_of-self c =
    let s = c.args.self.now in
    let count = count_of s in
    let i = c.place_of-i.result in
    let at = c.place_of-i.ensures in
    let r = c.index-row.result.now in
    let one : 1 ≤ c.args.n = search rules in
    let le : c.args.n ≤ s.rows.start + (length (vec_items s.rows.all) - s.rows.end) = search rules in
    let are = written s c.write.new.self c.place_of-i.result (record { start = c.index-row.result.now.start; len = c.index-row.result.now.len; tag = c.args.tag }) c.write.ensures.all c.write.ensures.start c.write.ensures.end in
    record {
      some = search (rules, length-set);
      bounded = search (rules, length-set);
      roomy = search (rules, length-set);
      front = front_as are (retag_front s c.args.n i one le at.value at.within r c.index-row.ensures c.args.tag);
      behind = behind_as are (retag_behind s c.args.n i one le at.value at.within r c.index-row.ensures c.args.tag);
      each = each_as are (retag_each s c.args.n i one le at.value at.within r c.index-row.ensures c.args.tag (search rules));
    }

pub returns : goal.returns
unfolding meaning_of
returns c =
    let s = c.args.self.now in
    let count = count_of s in
    let at = c.place_of-i.ensures in
    let lines = retag-lines s c.args.n c.place_of-i.result (search rules) (search rules) at.value at.within c.index-row.result.now c.index-row.ensures c.args.tag in
    let whole = meaning_as (written s c.write.new.self c.place_of-i.result (record { start = c.index-row.result.now.start; len = c.index-row.result.now.len; tag = c.args.tag }) c.write.ensures.all c.write.ensures.start c.write.ensures.end) in
    search (rules, length-set)
