use Rattle.std.proofs.Common.{◌≡◌, ◌+◌, take, Fits, w64, get_or, rules}
use Rattle.gap_store.specs.Rows.{no_row, total}
use Rattle.gap_store.specs.BackToBack.{total_more, total-within, part-read, part_more}
use Rattle.gap_store.proofs.laying.lay.Goals as goal

pub overflow_add-at : goal.overflow_add-at
overflow_add-at c =
    let rs = c.args.rows.now in
    let k = c.loop-row.row-index in
    let more = total_more c.args.start rs k c.loop-row-test.true in
    let within = total-within c.args.start rs (k + 1) in
    let read = part-read c.args.start rs k c.loop-row-test.true in
    let fits : Fits w64 (c.loop-row.at + (get_or c.loop-row.rows k no_row).len) = search rules in
    fits

pub loop-row-preserved : goal.loop-row-preserved
loop-row-preserved c =
    let rs = c.args.rows.now in
    let k = c.loop-row.row-index in
    let sum = total_more c.args.start rs k c.loop-row-test.true in
    let read = part-read c.args.start rs k c.loop-row-test.true in
    let more = part_more c.args.start rs k c.loop-row-test.true in
    let next : c.loop-row.at + (get_or c.loop-row.rows k no_row).len ≡ c.args.start + total (take (k + 1) rs) = search rules in
    (search rules, next)
