-- The directory: its rows stand in the order of their files in memory, and each has the number of its file.
use Rattle.std.specs.Prelude.{◌≡◌, ℕ, zero, suc, ◌<◌, cond, List, [], ◌∷◌, length, sum_by, count_by, ◌≢◌, nat_eq, nat_lt, slice_index_or}
use Rattle.std.specs.List.{HoldsAt}
use Rattle.shelf.specs.Text.{text_of}
use Rattle.packed_shelf.specs.declared.row.Row.{Row}

-- how many bytes the files of these rows take up
abbrev pub total : List Row → ℕ
total rows = sum_by (λ r. r.size) rows

-- how many of these rows have number k
abbrev pub bearing : ℕ → List Row → ℕ
bearing k rows = count_by (λ r. nat_eq r.number k) rows

-- the rows have the numbers from 0 on, each once
abbrev pub Numbered : List Row → Type 0
Numbered rows = (k : ℕ) → bearing k rows ≡ cond (nat_lt k (length rows)) 1 0

-- the number of the row at p
abbrev pub number_at : List Row → ℕ → ℕ
number_at [] p = 0
number_at (r ∷ rs) zero = r.number
number_at (r ∷ rs) (suc p) = number_at rs p

-- the row at p has number k
pub record Placed (rows : List Row) (k p : ℕ) : Type 0 where
  pub within : p < length rows
  pub number : number_at rows p ≡ k

-- the row at p has this name
pub record Called (rows : List Row) (n : List ℕ) (p : ℕ) : Type 0 where
  pub within : p < length rows
  pub here : HoldsAt (λ r. text_of r.name ≡ n) rows p

abbrev pub NoneCalled : List Row → List ℕ → Type 0
NoneCalled rows n = (p : ℕ) (d : Row) → p < length rows → text_of (slice_index_or rows p d).name ≢ n
