use Rattle.std.proofs.Common.{◌≡◌, ℕ, ◌*◌, List, vec_items, ap, rules}
use Rattle.gap_store.specs.declared.gapped.Gapped.{Gapped}
use Rattle.gap_store.specs.declared.row.Row.{Row}
use Rattle.gap_store.specs.Meaning.{meaning_of}
use Rattle.gap_store.specs.Edits.{made-lines}
use Rattle.gap_store.specs.Stored.{Are, meaning_as}
use Rattle.gap_store.proofs.store.GapStore.new.Goals as goal

-- rows and bytes that are all gap
all_gap : (rs : Gapped Row) (bs : Gapped ℕ) (rows : List Row) (bytes : List ℕ) (n m : ℕ) → vec_items rs.all ≡ rows → rs.start ≡ 0 → rs.end ≡ n → vec_items bs.all ≡ bytes → bs.start ≡ 0 → bs.end ≡ m
    → Are rs bs rows 0 n bytes 0 m
all_gap rs bs rows bytes n m all start end ball bstart bend =
    record { rows_all = all; rows_start = start; rows_end = end; bytes_all = ball; bytes_start = bstart; bytes_end = bend }

pub returns : goal.returns
unfolding meaning_of
returns c =
    let rows = vec_items c.in_ok-rows.rows in
    let bytes = vec_items c.in_ok-bytes.bytes in
    let n = c.args.capacity in
    let none = made-lines rows bytes n (n * 255) (search rules) (search rules) in
    let whole = meaning_as (all_gap c.new.result c.new-2.result rows bytes n (n * 255) (ap vec_items c.new.ensures.all) c.new.ensures.start (search rules) (ap vec_items c.new-2.ensures.all) c.new-2.ensures.start (search rules)) in
    search rules
