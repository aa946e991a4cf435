use Rattle.std.proofs.Common.{◌+◌, ◌-◌, List, length, vec_items, ap, ◌∙◌, arith, rules}
use Rattle.std.proofs.lemmas.List.{with_items_is}
use Rattle.gap_store.specs.declared.row.Row.{Row}
use Rattle.gap_store.specs.Gaps.{held}
use Rattle.gap_store.specs.Rows.{total}
use Rattle.gap_store.proofs.Sliding.{row_start, down_total, down_moved, down_written}
use Rattle.gap_store.proofs.laying.slide_down.Goals as goal

pub overflow_add-offset : goal.overflow_add-offset
overflow_add-offset c =
    let s = c.args.rows.now in
    let t = c.args.bytes.now in
    let order = s.order in
    let last = s.last in
    let stop = t.last in
    let n = t.all.ok in
    let start = row_start (vec_items s.all) c.args.at c.index.result.now (omega arith) c.index.ensures in
    let sum = down_total (vec_items s.all) s.start s.end t.start t.end c.args.at s.order s.last t.order c.requires.within c.requires.apart.front in
    search rules

pub lay-requires : goal.lay-requires
lay-requires c =
    let s = c.args.rows.now in
    let t = c.args.bytes.now in
    let order = s.order in
    let last = s.last in
    let room = t.order in
    let stop = t.last in
    let n = t.all.ok in
    let rows = c.deref_mut.result.now in
    let start = row_start (vec_items s.all) c.args.at c.index.result.now (omega arith) c.index.ensures in
    let sum = down_total (vec_items s.all) s.start s.end t.start t.end c.args.at s.order s.last t.order c.requires.within c.requires.apart.front in
    let same = ap (λ (us : List Row). held us c.args.at (c.args.at + (s.end - s.start))) c.deref_mut.ensures.value ∙ c.slide.ensures.same in
    let moved = down_moved (vec_items s.all) s.start s.end t.start t.end c.args.at s.order s.last t.order c.requires.within c.requires.apart.front rows (search rules) same in
    let all = ap total moved in
    search rules

pub returns : goal.returns
returns c =
    let s = c.args.rows.now in
    let t = c.args.bytes.now in
    let order = s.order in
    let last = s.last in
    let rows = c.deref_mut.result.now in
    let start = row_start (vec_items s.all) c.args.at c.index.result.now (omega arith) c.index.ensures in
    let same = ap (λ (us : List Row). held us c.args.at (c.args.at + (s.end - s.start))) c.deref_mut.ensures.value ∙ c.slide.ensures.same in
    record {
      start = search rules;
      end = search rules;
      len = search (rules, with_items_is);
      slid =
          down_written (vec_items s.all) s.start s.end t.start t.end c.args.at s.order s.last t.order c.requires.within c.requires.apart.front rows (search rules) same
          c.index.result.now.start start c.lay.new.rows c.lay.ensures (length (vec_items t.all)) c.requires.apart.behind _ (search (rules, with_items_is));
    }
