-- Rows that say where the bytes of each line lie, and the lines that rows and bytes with a gap mean.
use Rattle.std.specs.Prelude.{ℕ, ◌+◌, Bool, ◌&&◌, List, [], ◌∷◌, length, take, drop, ◌==◌, nat_le}
use Rattle.lines.specs.Line.{Line}
use Rattle.lines.specs.Store.{Store}
use Rattle.gap_store.specs.declared.row.Row.{Row}
use Rattle.gap_store.specs.Gaps.{held}

-- what is read where there is no row
abbrev pub no_row : Row
no_row = record { start = 0; len = 0; tag = 0 }

-- how many bytes the lines of some rows have
abbrev pub total : List Row → ℕ
total [] = 0
total (r ∷ rs) = r.len + total rs

-- the lines of some rows, cut one after the other from their bytes
abbrev pub cut : List ℕ → List Row → List Line
cut bytes [] = []
cut bytes (r ∷ rs) = record { text = take r.len bytes; tag = r.tag } ∷ cut (drop r.len bytes) rs

-- the rows lie back to back from one place of the bytes to another
abbrev pub laid : ℕ → List Row → ℕ → Bool
laid from [] to = from == to
laid from (r ∷ rs) to = r.start == from && (nat_le r.len 255 && laid (from + r.len) rs to)

-- rows laid anew, back to back from a place on
abbrev pub relaid : ℕ → List Row → List Row
relaid from [] = []
relaid from (r ∷ rs) = record { start = from; len = r.len; tag = r.tag } ∷ relaid (from + r.len) rs

-- the store that rows with a gap from f to b, over bytes with a gap from p to q, mean
abbrev pub gap_meaning : List Row → ℕ → ℕ → List ℕ → ℕ → ℕ → Store
gap_meaning rows f b bytes p q = record { lines = cut (held bytes p q) (held rows f b); capacity = length rows }
