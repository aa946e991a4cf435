use Rattle.std.proofs.Common.{◌+◌, ◌-◌, List, length, vec_items, ap, ◌∙◌, arith, rules}
use Rattle.std.proofs.lemmas.List.{with_items_is}
use Rattle.gap_store.specs.declared.row.Row.{Row}
use Rattle.gap_store.specs.Gaps.{held}
use Rattle.gap_store.specs.Rows.{total}
use Rattle.gap_store.proofs.Sliding.{up_read, up_moved, up_written}
use Rattle.gap_store.proofs.laying.slide_up.Goals as goal

pub lay-requires : goal.lay-requires
lay-requires c =
    let s = c.args.rows.now in
    let t = c.args.bytes.now in
    let order = s.order in
    let last = s.last in
    let room = t.order in
    let end = t.last in
    let n = t.all.ok in
    let rows = c.deref_mut.result.now in
    let stop = up_read (vec_items s.all) s.start s.end t.start t.end (length (vec_items t.all)) c.args.at s.order s.last t.order c.requires.within.0 c.requires.within.1 c.requires.apart.front c.requires.apart.behind
    c.deref.result.now c.deref.ensures.value c.len.result (c.len.ensures ∙ t.all.ok.0) c.start_of-stop.result c.start_of-stop.ensures in
    let same = ap (λ (us : List Row). held us c.args.at (c.args.at + (s.end - s.start))) c.deref_mut.ensures.value ∙ c.slide.ensures.same in
    let moved = up_moved (vec_items s.all) s.start s.end t.start t.end (length (vec_items t.all)) c.args.at s.order s.last t.order c.requires.within.0 c.requires.within.1 c.requires.apart.front c.requires.apart.behind rows (search rules) same in
    let all = ap total moved in
    search rules

pub overflow_sub-result-2 : goal.overflow_sub-result-2
overflow_sub-result-2 c =
    let s = c.args.rows.now in
    let t = c.args.bytes.now in
    let room = t.order in
    let stop = up_read (vec_items s.all) s.start s.end t.start t.end (length (vec_items t.all)) c.args.at s.order s.last t.order c.requires.within.0 c.requires.within.1 c.requires.apart.front c.requires.apart.behind
    c.deref.result.now c.deref.ensures.value c.len.result (c.len.ensures ∙ t.all.ok.0) c.start_of-stop.result c.start_of-stop.ensures in
    search rules

pub returns : goal.returns
returns c =
    let s = c.args.rows.now in
    let t = c.args.bytes.now in
    let order = s.order in
    let last = s.last in
    let rows = c.deref_mut.result.now in
    let stop = up_read (vec_items s.all) s.start s.end t.start t.end (length (vec_items t.all)) c.args.at s.order s.last t.order c.requires.within.0 c.requires.within.1 c.requires.apart.front c.requires.apart.behind
    c.deref.result.now c.deref.ensures.value c.len.result (c.len.ensures ∙ t.all.ok.0) c.start_of-stop.result c.start_of-stop.ensures in
    let same = ap (λ (us : List Row). held us c.args.at (c.args.at + (s.end - s.start))) c.deref_mut.ensures.value ∙ c.slide.ensures.same in
    record {
      start = search rules;
      end = search rules;
      len = search (rules, with_items_is);
      slid =
          up_written (vec_items s.all) s.start s.end t.start t.end (length (vec_items t.all)) c.args.at s.order s.last t.order c.requires.within.0 c.requires.within.1 c.requires.apart.front c.requires.apart.behind rows (search rules) same
          c.lay.new.rows c.lay.ensures _ (omega (arith, stop)) _ (search (rules, with_items_is));
    }
