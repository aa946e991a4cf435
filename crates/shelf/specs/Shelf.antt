-- What a shelf means: files in order of making, numbered from 0, a fixed capacity in bytes, and the names it protects;
-- what its questions answer, and what a change answers and leaves.
use Rattle.std.specs.Prelude.{◌≡◌, ℕ, ◌+◌, ◌<◌, ◌≤◌, Bool, true, false, cond, not, ◌&&◌, List, [], ◌∷◌, ◌++◌, length, take, drop, is_ok, Some, None, Ok, Err, sum_by, Option, Result, nat_le, nat_lt, slice_index_or, slice_set}
use Rattle.std.specs.Option.{unwrap_or}
use Rattle.std.specs.Str.{bytes_eq}
use Rattle.shelf.specs.declared.fault.ShelfFault.{ShelfFault}
use Rattle.shelf.specs.declared.fault.ShelfFault.TheVariants.{BadName, Full, Protected, NoFile}
use Rattle.shelf.specs.Name.{is_name, begins}

pub record File : Type 0 where
  pub name : List ℕ
  pub contents : List ℕ

abbrev pub empty_file : List ℕ → File
empty_file n = record { name = n; contents = [] }

-- what is read where there is no file
abbrev pub no_file : File
no_file = empty_file []

pub record Shelf : Type 0 where
  pub files : List File
  pub capacity : ℕ
  pub protects : List ℕ → Bool

-- no file, and no name protected
abbrev pub empty_shelf : ℕ → Shelf
empty_shelf capacity = record { files = []; capacity = capacity; protects = λ n. false }

abbrev pub with_files : Shelf → List File → Shelf
with_files s fs = record { files = fs; capacity = s.capacity; protects = s.protects }

abbrev pub present : Shelf → ℕ → Bool
present s i = nat_lt i (length s.files)

abbrev pub name_at : List File → ℕ → List ℕ
name_at fs i = (slice_index_or fs i no_file).name

abbrev pub contents_at : List File → ℕ → List ℕ
contents_at fs i = (slice_index_or fs i no_file).contents

-- how many bytes the files hold together
abbrev pub held : List File → ℕ
held fs = sum_by (λ f. length f.contents) fs

-- each file has a good name
abbrev pub Named : List File → Type 0
Named fs = (i : ℕ) → i < length fs → is_name (name_at fs i) ≡ true

-- no two files have one name
abbrev pub Apart : List File → Type 0
Apart fs = (i j : ℕ) → (i < j) × (j < length fs) → bytes_eq (name_at fs i) (name_at fs j) ≡ false

-- what every shelf keeps
pub record Sound (s : Shelf) : Type 0 where
  pub few : length s.files ≤ 8
  pub bounded : s.capacity ≤ 1048576
  pub within : held s.files ≤ s.capacity
  pub named : Named s.files
  pub apart : Apart s.files

-- the number of the first file of this name, where the first of these files has number i
abbrev pub lookup_from : ℕ → List File → List ℕ → Option ℕ
lookup_from i [] n = None
lookup_from i (f ∷ fs) n = cond (bytes_eq f.name n) (Some i) (lookup_from (i + 1) fs n)

abbrev pub lookup_answer : Shelf → List ℕ → Option ℕ
lookup_answer s n = lookup_from 0 s.files n

-- the size of file i
abbrev pub size_answer : Shelf → ℕ → Result ℕ ShelfFault
size_answer s i = cond (present s i) (Ok (length (contents_at s.files i))) (Err NoFile)

-- whether the name of file i begins with these bytes
abbrev pub begins_answer : Shelf → ℕ → List ℕ → Result Bool ShelfFault
begins_answer s i prefix = cond (present s i) (Ok (begins prefix (name_at s.files i))) (Err NoFile)

-- a copy of file i from a place on: the bytes that stand there and fit in so much room
abbrev pub copied : Shelf → ℕ → ℕ → ℕ → List ℕ
copied s i from room = take room (drop from (contents_at s.files i))

abbrev pub copy_answer : Shelf → ℕ → ℕ → ℕ → Result ℕ ShelfFault
copy_answer s i from room = cond (present s i) (Ok (length (copied s i from room))) (Err NoFile)

abbrev pub copy_after : Shelf → ℕ → ℕ → List ℕ → List ℕ
copy_after s i from buffer =
    cond (present s i)
    (copied s i from (length buffer) ++ drop (length (copied s i from (length buffer))) buffer)
    buffer

-- the files once the file of this name is empty: one of them, or a new one behind them
abbrev pub emptied : List File → List ℕ → Option ℕ → List File
emptied fs n (Some i) = slice_set fs i (empty_file n)
emptied fs n None = fs ++ empty_file n ∷ []

abbrev pub cleared : Shelf → List ℕ → List File
cleared s n = emptied s.files n (lookup_answer s n)

-- a name cleared for a file of so many bytes
abbrev pub clear_answer : Shelf → List ℕ → ℕ → Result ℕ ShelfFault
clear_answer s n size =
    cond (not (is_name n)) (Err BadName)
    (cond (s.protects n) (Err Protected)
    (cond (not (nat_le (length (cleared s n)) 8 && nat_le (held (cleared s n) + size) s.capacity)) (Err Full)
    (Ok (unwrap_or (lookup_answer s n) (length s.files)))))

abbrev pub clear_after : Shelf → List ℕ → ℕ → Shelf
clear_after s n size = cond (is_ok (clear_answer s n size)) (with_files s (cleared s n)) s

-- bytes added at the end of file i
abbrev pub add_answer : Shelf → ℕ → List ℕ → Result (Unit {0}) ShelfFault
add_answer s i bytes =
    cond (not (present s i)) (Err NoFile)
    (cond (s.protects (name_at s.files i)) (Err Protected)
    (cond (not (nat_le (held s.files + length bytes) s.capacity)) (Err Full)
    (Ok tt)))

abbrev pub added : List File → ℕ → List ℕ → List File
added fs i bytes = slice_set fs i (record { name = name_at fs i; contents = contents_at fs i ++ bytes })

abbrev pub add_after : Shelf → ℕ → List ℕ → Shelf
add_after s i bytes = cond (is_ok (add_answer s i bytes)) (with_files s (added s.files i bytes)) s
