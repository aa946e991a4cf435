-- The two ways of clearing a name: a file of that name is emptied, or there is none and one is made.
use Rattle.std.specs.Prelude.{ℕ, ◌+◌, cond, not, ◌&&◌, List, [], ◌∷◌, ◌++◌, length, is_ok, Ok, Err, Result, nat_le, slice_set}
use Rattle.shelf.specs.declared.fault.ShelfFault.{ShelfFault}
use Rattle.shelf.specs.declared.fault.ShelfFault.TheVariants.{Full, NoFile}
use Rattle.shelf.specs.Shelf.{File, Shelf, empty_file, with_files, present, name_at, held}

-- file i, emptied for so many bytes
abbrev pub old_emptied : Shelf → ℕ → List File
old_emptied s i = slice_set s.files i (empty_file (name_at s.files i))

abbrev pub old_answer : Shelf → ℕ → ℕ → Result ℕ ShelfFault
old_answer s i size =
    cond (not (present s i)) (Err NoFile)
    (cond (not (nat_le (held (old_emptied s i) + size) s.capacity)) (Err Full)
    (Ok i))

abbrev pub old_after : Shelf → ℕ → ℕ → Shelf
old_after s i size = cond (is_ok (old_answer s i size)) (with_files s (old_emptied s i)) s

-- a file of a new name, made for so many bytes
abbrev pub new_made : Shelf → List ℕ → List File
new_made s n = s.files ++ empty_file n ∷ []

abbrev pub new_answer : Shelf → List ℕ → ℕ → Result ℕ ShelfFault
new_answer s n size =
    cond (not (nat_le (length (new_made s n)) 8 && nat_le (held (new_made s n) + size) s.capacity)) (Err Full)
    (Ok (length s.files))

abbrev pub new_after : Shelf → List ℕ → ℕ → Shelf
new_after s n size = cond (is_ok (new_answer s n size)) (with_files s (new_made s n)) s
