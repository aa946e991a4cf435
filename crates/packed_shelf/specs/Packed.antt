-- What a packed shelf means, from its directory and its memory.
use Rattle.std.specs.Prelude.{ℕ, false, cond, List, [], ◌∷◌, map, length, take, drop, ◌==◌}
use Rattle.std.specs.List.{range_with_len}
use Rattle.shelf.specs.Shelf.{File, Shelf, no_file}
use Rattle.shelf.specs.Text.{text_of}
use Rattle.packed_shelf.specs.declared.row.Row.{Row}

-- file k: its row is the first with that number, and its bytes stand behind those of the rows in front
abbrev pub file_of : List Row → List ℕ → ℕ → File
file_of [] bytes k = no_file
file_of (r ∷ rs) bytes k =
    cond (r.number == k)
    (record { name = text_of r.name; contents = take r.size bytes })
    (file_of rs (drop r.size bytes) k)

-- all files, in the order of their numbers
abbrev pub files_of : List Row → List ℕ → List File
files_of rows bytes = map (file_of rows bytes) (range_with_len 0 (length rows))

abbrev pub packed : List Row → List ℕ → Shelf
packed rows bytes = record { files = files_of rows bytes; capacity = length bytes; protects = λ n. false }
