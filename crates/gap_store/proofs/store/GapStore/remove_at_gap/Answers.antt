use Rattle.std.proofs.Common.{refl, rules}
use Rattle.gap_store.specs.Meaning.{meaning_of}
use Rattle.gap_store.specs.Stored.{taken_out, meaning_as, front_as, behind_as, each_as, remove_lower, remove-laid, remove_makes, remove_each}
use Rattle.gap_store.proofs.store.GapStore.remove_at_gap.Goals as goal

pub take_out-requires-2 : goal.take_out-requires-2
take_out-requires-2 c = remove_lower c.args.self.now c.args.self.now.rows.start refl c.requires c.index-row.result.now c.index-row.ensures

pub invariant_of-self : goal.invariant_of-self
invariant_of-self c =
    let s = c.args.self.now in
    let n = s.rows.start in
    let are = taken_out s c.take_out.new.self c.take_out-2.new.self c.index-row.result.now.start c.take_out.ensures.all c.take_out.ensures.start c.take_out.ensures.end c.take_out-2.ensures.all c.take_out-2.ensures.start c.take_out-2.ensures.end in
    record {
      some = search rules;
      bounded = search rules;
      roomy = search rules;
      front = front_as are (remove-laid s n refl c.requires c.index-row.result.now c.index-row.ensures);
      behind = behind_as are s.behind;
      each = each_as are (remove_each s n refl c.requires c.index-row.result.now c.index-row.ensures);
    }

pub returns : goal.returns
unfolding meaning_of
returns c =
    let s = c.args.self.now in
    let makes = remove_makes s s.rows.start refl c.requires c.index-row.result.now c.index-row.ensures in
    let whole = meaning_as (taken_out s c.take_out.new.self c.take_out-2.new.self c.index-row.result.now.start c.take_out.ensures.all c.take_out.ensures.start c.take_out.ensures.end c.take_out-2.ensures.all c.take_out-2.ensures.start c.take_out-2.ensures.end) in
    search rules
