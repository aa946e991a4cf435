-- What moving the gap in the rows, from f..b to `at`, leaves, with the place where the gap in the bytes, now p..q, is then to start.
use Rattle.std.specs.Prelude.{◌≡◌, ℕ, ◌+◌, ◌-◌, true, List, length, take, drop, vec_items}
use Rattle.gap_store.specs.declared.gapped.Gapped.{Gapped}
use Rattle.gap_store.specs.declared.row.Row.{Row}
use Rattle.gap_store.specs.Gaps.{held}
use Rattle.gap_store.specs.Rows.{total, cut, laid}

-- the lines stay, and the rows lie back to back again on either side of the two gaps
pub record Slid (was : List Row) (f b p q end at : ℕ) (rows : List Row) (offset : ℕ) : Type 0 where
  pub here : offset ≡ total (take at (held was f b))
  pub same : (bytes : List ℕ) → cut bytes (held rows at (at + (b - f))) ≡ cut bytes (held was f b)
  pub front : laid 0 (take at rows) offset ≡ true
  pub behind : laid (offset + (q - p)) (drop (at + (b - f)) rows) end ≡ true

-- the rows lie back to back: in front of their gap from the first byte up to the gap in the bytes, behind it from there up to the last
pub record Apart (rs : Gapped Row) (bs : Gapped ℕ) : Type 0 where
  pub front : laid 0 (take rs.start (vec_items rs.all)) bs.start ≡ true
  pub behind : laid bs.end (drop rs.end (vec_items rs.all)) (length (vec_items bs.all)) ≡ true

-- the gap of the rows is at `at`, as wide as it was, and the gap of their bytes is to go to `offset`
pub record Brought (was rs : Gapped Row) (bs : Gapped ℕ) (at offset : ℕ) : Type 0 where
  pub start : rs.start ≡ at
  pub end : rs.end ≡ at + (was.end - was.start)
  pub len : length (vec_items rs.all) ≡ length (vec_items was.all)
  pub slid : Slid (vec_items was.all) was.start was.end bs.start bs.end (length (vec_items bs.all)) at (vec_items rs.all) offset
