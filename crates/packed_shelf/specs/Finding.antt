-- A file and its row: where the row is, and what it says of the file.
use Rattle.std.specs.Prelude.{◌≡◌, ℕ, ◌<◌, true, List, length}
use Rattle.shelf.specs.Shelf.{Shelf, present, name_at, contents_at}
use Rattle.shelf.specs.Text.{text_of}
use Rattle.packed_shelf.specs.declared.row.Row.{Row}
use Rattle.packed_shelf.specs.Rows.{number_at}

-- file k is there, and its row is at p
pub record Found (s : Shelf) (rows : List Row) (k p : ℕ) : Type 0 where
  pub here : present s k ≡ true
  pub within : p < length rows
  pub number : number_at rows p ≡ k

-- file k is there, and this is its row
pub record RowOf (s : Shelf) (k : ℕ) (r : Row) : Type 0 where
  pub here : present s k ≡ true
  pub name : name_at s.files k ≡ text_of r.name
  pub size : length (contents_at s.files k) ≡ r.size
