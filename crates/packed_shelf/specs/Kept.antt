-- What a packed shelf keeps of its rows and bytes, and what follows for its answers.
use Rattle.std.specs.Prelude.{◌≡◌, ℕ, zero, suc, ◌-◌, ◌<◌, ◌≤◌, true, false, List, [], ◌∷◌, length, get_or, take, drop, Some, None, ◌==◌, ◌≢◌, nat_eq, slice_index_or}
use Rattle.std.proofs.Common.{sym, ap, ◌∙◌, ⊎_elim, arith}
use Rattle.std.proofs.lemmas.Bool.{cases_Bool, lt-ltb, le-ltb}
use Rattle.shelf.specs.Shelf.{File, Sound, Named, Apart, no_file, name_at, contents_at, present, held, lookup_answer}
use Rattle.shelf.specs.Text.{text_of}
use Rattle.shelf.proofs.Lookup.{lookup_first, lookup_missing, other_name}
use Rattle.packed_shelf.specs.declared.row.Row.{Row}
use Rattle.packed_shelf.specs.Finding.{RowOf}
use Rattle.packed_shelf.specs.Moves.{start_at, end_at, bytes_at}
use Rattle.packed_shelf.specs.Packed.{file_of, files_of, packed}
use Rattle.packed_shelf.specs.Rows.{total, bearing, Numbered, Placed, NoneCalled}
use Rattle.packed_shelf.specs.Steps.{number_read}
use Rattle.packed_shelf.specs.Stored.{stored, here, past, bearing-past}
use Rattle.packed_shelf.specs.Held.{held-total}
use Rattle.packed_shelf.specs.Moved.{a_row, end_is}
use Rattle.packed_shelf.specs.Shelved.{files-length, file_is, borne, not-borne, number-below, row-file, own_long}

pub record Kept (rows : List Row) (bytes : List ℕ) : Type 0 where
  pub few : length rows ≤ 8
  pub bounded : length bytes ≤ 1048576
  pub within : total rows ≤ length bytes
  pub numbered : Numbered rows
  pub named : Named (files_of rows bytes)
  pub apart : Apart (files_of rows bytes)

-- the row of a file of this name
named-row : (rows : List Row) (bytes : List ℕ) (k : ℕ) (n : List ℕ) → 0 < bearing k rows → (file_of rows bytes k).name ≡ n
    → (p : ℕ) × (d : Row) × (p < length rows) × (text_of (get_or rows p d).name ≡ n)
named-row [] bytes k n some e = absurd (omega arith)
named-row (x ∷ xs) bytes k n some e =
    ⊎_elim
    (λ (t : nat_eq x.number k ≡ true). (zero, x, omega arith, sym (ap (λ (f : File). f.name) (here x xs bytes k t)) ∙ e))
    (λ (t : nat_eq x.number k ≡ false).
    let b = bearing-past k x xs t in
    later (named-row xs (drop x.size bytes) k n (omega arith) (sym (ap (λ (f : File). f.name) (past x xs bytes k t)) ∙ e)))
    (cases_Bool (x.number == k))
  where
    later : ((p : ℕ) × (d : Row) × (p < length xs) × (text_of (get_or xs p d).name ≡ n)) → (p : ℕ) × (d : Row) × (p < length (x ∷ xs)) × (text_of (get_or (x ∷ xs) p d).name ≡ n)
    later (p, d, lt, h) = (suc p, d, omega arith, h)

module _ (rows : List Row) (bytes : List ℕ) (kept : Kept rows bytes) where
  pub held_is : held (files_of rows bytes) ≡ total rows
  held_is = held-total rows bytes kept.numbered kept.within

  pub packed-sound : Sound (packed rows bytes)
  packed-sound =
      let l = files-length rows bytes in
      let h = held_is in
      let few = kept.few in
      let within = kept.within in
      record { few = omega arith; bounded = kept.bounded; within = omega arith; named = kept.named; apart = kept.apart }

  pub absent : (k : ℕ) → bearing k rows ≡ 0 → present (packed rows bytes) k ≡ false
  absent k none =
      let l = files-length rows bytes in
      let n = not-borne rows kept.numbered k none in
      le-ltb k (length (files_of rows bytes)) (omega arith)

  -- looking up a name
  pub lookup_none : (n : List ℕ) → NoneCalled rows n → lookup_answer (packed rows bytes) n ≡ None
  lookup_none n none = lookup_missing (packed rows bytes) n λ k lt.
      let l = files-length rows bytes in
      let h : k < length rows = omega arith in
      other_name (name_at (files_of rows bytes) k) n (λ e. no k h (ap (λ (f : File). f.name) (sym (file_is rows bytes k h)) ∙ e))
    where
      refute : ((p : ℕ) × (d : Row) × (p < length rows) × (text_of (get_or rows p d).name ≡ n)) → ⊥
      refute (p, d, lt, h) = none p d lt h

      no : (k : ℕ) → k < length rows → (file_of rows bytes k).name ≢ n
      no k lt e = let b = borne rows kept.numbered k lt in refute (named-row rows bytes k n (omega arith) e)

  module _ (p : ℕ) (r : Row) (lt : p < length rows) (is : r ≡ slice_index_or rows p r) where
    row-present : present (packed rows bytes) r.number ≡ true
    row-present =
        let l = files-length rows bytes in
        let b = number-below rows kept.numbered p r lt is in
        lt-ltb r.number (length (files_of rows bytes)) (omega arith)

    pub row_found : get_or (files_of rows bytes) r.number no_file ≡ stored r (drop (start_at rows p) bytes)
    row_found = file_is rows bytes r.number (number-below rows kept.numbered p r lt is) ∙ row-file rows kept.numbered p r lt is bytes

    pub lookup-row : (n : List ℕ) → text_of r.name ≡ n → lookup_answer (packed rows bytes) n ≡ Some r.number
    lookup-row n e =
        let l = files-length rows bytes in
        let b = number-below rows kept.numbered p r lt is in
        lookup_first (packed rows bytes) n r.number kept.apart (omega arith) (ap (λ (f : File). f.name) row_found ∙ e)

  -- a file with its row
  module _ (k p : ℕ) (placed : Placed rows k p) (r : Row) (is : r ≡ slice_index_or rows p r) where
    pub number_is : r.number ≡ k
    number_is = sym (number_read rows p r placed.within is) ∙ placed.number

    pub found-present : present (packed rows bytes) k ≡ true
    found-present = ap (present (packed rows bytes)) (sym number_is) ∙ row-present p r placed.within is

    pub found-file : get_or (files_of rows bytes) k no_file ≡ stored r (drop (start_at rows p) bytes)
    found-file = ap (λ (j : ℕ). get_or (files_of rows bytes) j no_file) (sym number_is) ∙ row_found p r placed.within is

    pub found-size : length (contents_at (files_of rows bytes) k) ≡ r.size
    found-size = ap (λ (f : File). length f.contents) found-file ∙ own_long rows kept.numbered p r placed.within is bytes kept.within

    pub row_of : RowOf (packed rows bytes) k r
    row_of = record { here = found-present; name = ap (λ (f : File). f.name) found-file; size = found-size }

    pub own_is : take r.size (drop (start_at rows p) bytes) ≡ bytes_at rows p bytes
    own_is =
        let e = end_is rows p r placed.within is in
        ap (λ (n : ℕ). take n (drop (start_at rows p) bytes)) (let z : r.size ≡ end_at rows p - start_at rows p = omega arith in z)

  pub placed-contents : (k p : ℕ) → Placed rows k p → (present (packed rows bytes) k ≡ true) × (contents_at (files_of rows bytes) k ≡ bytes_at rows p bytes)
  placed-contents k p placed = from (a_row rows p placed.within)
    where
      from : ((r : Row) × (r ≡ slice_index_or rows p r)) → (present (packed rows bytes) k ≡ true) × (contents_at (files_of rows bytes) k ≡ bytes_at rows p bytes)
      from (r, is) = (found-present k p placed r is, ap (λ (f : File). f.contents) (found-file k p placed r is) ∙ own_is k p placed r is)
