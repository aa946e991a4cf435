-- The store that a gap store means, and where the bytes of one of its lines lie.
use Rattle.std.specs.Prelude.{◌≡◌, ℕ, ◌+◌, ◌≤◌, true, length, take, drop, vec_items}
use Rattle.lines.specs.Store.{Store, line_at, present}
use Rattle.gap_store.specs.declared.row.Row.{Row}
use Rattle.gap_store.specs.declared.store.GapStore.{GapStore}
use Rattle.gap_store.specs.Rows.{gap_meaning}

unfoldable pub meaning_of : GapStore → Store
meaning_of s = gap_meaning (vec_items s.rows.all) s.rows.start s.rows.end (vec_items s.bytes.all) s.bytes.start s.bytes.end

-- r is the row of line n
pub record Located (s : GapStore) (n : ℕ) (r : Row) : Type 0 where
  pub here : present (meaning_of s) n ≡ true
  pub within : r.start + r.len ≤ length (vec_items s.bytes.all)
  pub text : (line_at (meaning_of s) n).text ≡ take r.len (drop r.start (vec_items s.bytes.all))
  pub long : length (line_at (meaning_of s) n).text ≡ r.len
  pub tag : (line_at (meaning_of s) n).tag ≡ r.tag
