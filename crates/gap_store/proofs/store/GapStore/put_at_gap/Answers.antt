use Rattle.std.proofs.Common.{◌<◌, length, vec_items, refl, ap, ◌∙◌, arith, rules}
use Rattle.std.proofs.lemmas.List.{length-set}
use Rattle.gap_store.specs.declared.store.GapStore.{GapStore}
use Rattle.gap_store.specs.Gaps.{overwritten}
use Rattle.gap_store.specs.Meaning.{meaning_of}
use Rattle.gap_store.specs.Stored.{put_in, meaning_as, front_as, behind_as, each_as, count_of, put-room, put-long, put-laid, put_rest, put_makes, put_each}
use Rattle.gap_store.proofs.store.GapStore.put_at_gap.Goals as goal

-- a row is free where there are fewer lines than there can be
free : (s : GapStore) → length (meaning_of s).lines < (meaning_of s).capacity → s.rows.start < s.rows.end
unfolding meaning_of
free s h = let count = count_of s in let order = s.rows.order in let last = s.rows.last in omega arith

pub put-requires : goal.put-requires
put-requires c = let less = free c.args.self.now c.requires.free in search rules

pub put-requires-2 : goal.put-requires-2
put-requires-2 c =
    let s = c.args.self.now in
    let text = c.args.text.now in
    put-room s s.rows.start refl (free s c.requires.free) text c.args.tag c.requires.fits (overwritten (vec_items s.bytes.all) s.bytes.start text) refl

pub invariant_of-self : goal.invariant_of-self
unfolding meaning_of
invariant_of-self c =
    let s = c.args.self.now in
    let n = s.rows.start in
    let bytes = vec_items c.put-2.new.self.all in
    let text = c.args.text.now in
    let less = free s c.requires.free in
    let long = put-long s n refl less text c.args.tag c.requires.fits bytes c.put-2.ensures.all in
    let are =
    put_in s c.put.new.self c.put-2.new.self (record { start = s.bytes.start; len = length text; tag = c.args.tag }) (length text) (free s c.requires.free) c.put.ensures.all c.put.ensures.start c.put.ensures.end c.put-2.ensures.start c.put-2.ensures.end
    in
    let same = ap length are.rows_all ∙ length-set (vec_items s.rows.all) n _ in
    record {
      some = search rules;
      bounded = search rules;
      roomy = search rules;
      front = front_as are (put-laid s n refl less text c.args.tag c.requires.fits bytes c.put-2.ensures.all);
      behind = behind_as are (put_rest s n refl less text c.args.tag c.requires.fits bytes c.put-2.ensures.all);
      each = each_as are (put_each s n refl less text c.args.tag c.requires.fits bytes c.put-2.ensures.all);
    }

pub returns : goal.returns
unfolding meaning_of
returns c =
    let s = c.args.self.now in
    let text = c.args.text.now in
    let makes = put_makes s s.rows.start refl (free s c.requires.free) text c.args.tag c.requires.fits (vec_items c.put-2.new.self.all) c.put-2.ensures.all in
    let whole =
    meaning_as (put_in s c.put.new.self c.put-2.new.self (record { start = s.bytes.start; len = length text; tag = c.args.tag }) (length text) (free s c.requires.free) c.put.ensures.all c.put.ensures.start c.put.ensures.end c.put-2.ensures.start c.put-2.ensures.end)
    in
    search (rules, length-set)
