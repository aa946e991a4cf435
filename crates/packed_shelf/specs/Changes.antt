-- What a change of rows and bytes makes of the files: one emptied, one lengthened, one made.
use Rattle.std.specs.Prelude.{◌≡◌, ℕ, ◌+◌, ◌<◌, ◌≤◌, Bool, true, false, cond, List, [], ◌∷◌, ◌++◌, length, take, drop, ◌==◌, nat_eq, slice_index_or, slice_set}
use Rattle.std.proofs.Common.{sym, ap, ◌∙◌, subst, append_assoc, ⊎_elim, arith, length-set}
use Rattle.std.proofs.lemmas.List.FromFn.{length-map-range_with_len, get_or-map-range_with_len}
use Rattle.std.proofs.lemmas.List.{same_lists, length-append, drop_at, take_at, get_or-set_same, get_or-set_other}
use Rattle.std.proofs.lemmas.List.Sums.{sum_by-append}
use Rattle.std.proofs.lemmas.Bool.{cases_Bool, cases_eq, eq-eqb, ne_eqb, eqb-true}
use Rattle.shelf.specs.Shelf.{File, empty_file}
use Rattle.shelf.specs.Text.{text_of}
use Rattle.packed_shelf.specs.declared.row.Row.{Row}
use Rattle.packed_shelf.specs.Moves.{sized, longer}
use Rattle.packed_shelf.specs.Packed.{file_of, files_of}
use Rattle.packed_shelf.specs.Rows.{total, bearing}
use Rattle.packed_shelf.specs.Stored.{stored, own_bytes, without-row, without_last, found_behind, bearing_here}

pub total-append : (xs ys : List Row) → total (xs ++ ys) ≡ total xs + total ys
total-append xs ys = sum_by-append (λ r. r.size) xs ys

pub bearing-append : (k : ℕ) (xs ys : List Row) → bearing k (xs ++ ys) ≡ bearing k xs + bearing k ys
bearing-append k xs ys = sum_by-append (λ r. cond (r.number == k) 1 0) xs ys

-- the rows xs, r, ys with their bytes fs, cs, bs, and more bytes behind
module _ (xs ys : List Row) (r : Row) (fs cs bs zs zs' : List ℕ) (lf : length fs ≡ total xs) (lc : length cs ≡ r.size) (lb : length bs ≡ total ys) where
  -- bytes behind the files may be any
  rest-free : (k : ℕ) → file_of (xs ++ ys) (fs ++ (bs ++ zs)) k ≡ file_of (xs ++ ys) (fs ++ (bs ++ zs')) k
  rest-free k =
      let t = total-append xs ys in
      let l = length-append fs bs in
      let le : total (xs ++ ys) ≤ length (fs ++ bs) = omega arith in
      ap (λ (ws : List ℕ). file_of (xs ++ ys) ws k) (sym (append_assoc fs bs zs))
      ∙ (own_bytes (xs ++ ys) (fs ++ bs) zs k le
      ∙ (sym (own_bytes (xs ++ ys) (fs ++ bs) zs' k le)
      ∙ ap (λ (ws : List ℕ). file_of (xs ++ ys) ws k) (append_assoc fs bs zs')))

  -- the file of r goes to the end, empty
  pub emptied_at : (k : ℕ) → bearing k (xs ++ r ∷ ys) ≡ 1
      → file_of (xs ++ (ys ++ sized 0 r ∷ [])) (fs ++ (bs ++ zs')) k
      ≡ cond (r.number == k) (empty_file (text_of r.name)) (file_of (xs ++ r ∷ ys) (fs ++ (cs ++ (bs ++ zs))) k)
  emptied_at k one =
      let b = bearing-append k xs (r ∷ ys) in
      let q = bearing-append k xs ys in
      let us = fs ++ (cs ++ (bs ++ zs)) in
      ap (λ (rs : List Row). file_of rs (fs ++ (bs ++ zs')) k) (sym (append_assoc xs ys (sized 0 r ∷ [])))
      ∙ ⊎_elim
      (λ (e : nat_eq r.number k ≡ true).
      let h = bearing_here k r ys e in
      found_behind (xs ++ ys) [] (sized 0 r) (fs ++ (bs ++ zs')) k (omega arith) e
      ∙ sym (ap (λ (t : Bool). cond t (empty_file (text_of r.name)) (file_of (xs ++ r ∷ ys) us k)) e))
      (λ (e : nat_eq r.number k ≡ false).
      without_last (xs ++ ys) (sized 0 r) (fs ++ (bs ++ zs')) k e
      ∙ (sym (rest-free k)
      ∙ (sym (without-row xs ys r fs cs (bs ++ zs) k e lf lc)
      ∙ sym (ap (λ (t : Bool). cond t (empty_file (text_of r.name)) (file_of (xs ++ r ∷ ys) us k)) e))))
      (cases_Bool (r.number == k))

  -- the file of r gets the bytes ms behind its own
  pub lengthened_at : (ms : List ℕ) (k : ℕ) → bearing k (xs ++ r ∷ ys) ≡ 1
      → file_of (xs ++ longer (length ms) r ∷ ys) (fs ++ ((cs ++ ms) ++ (bs ++ zs'))) k
      ≡ cond (r.number == k) (record { name = text_of r.name; contents = cs ++ ms }) (file_of (xs ++ r ∷ ys) (fs ++ (cs ++ (bs ++ zs))) k)
  lengthened_at ms k one =
      let b = bearing-append k xs (r ∷ ys) in
      let us = fs ++ (cs ++ (bs ++ zs)) in
      let ws = (cs ++ ms) ++ (bs ++ zs') in
      let l = length-append cs ms in
      let lm : length (cs ++ ms) ≡ r.size + length ms = omega arith in
      let r' = longer (length ms) r in
      ⊎_elim
      (λ (e : nat_eq r.number k ≡ true).
      let h = bearing_here k r ys e in
      found_behind xs ys r' (fs ++ ws) k (omega arith) e
      ∙ (ap (λ (vs : List ℕ). stored r' vs) (drop_at fs ws (total xs) lf)
      ∙ (ap (λ (vs : List ℕ). record { name = text_of r.name; contents = vs }) (take_at (cs ++ ms) (bs ++ zs') (r.size + length ms) lm)
      ∙ sym (ap (λ (t : Bool). cond t (record { name = text_of r.name; contents = cs ++ ms }) (file_of (xs ++ r ∷ ys) us k)) e))))
      (λ (e : nat_eq r.number k ≡ false).
      without-row xs ys r' fs (cs ++ ms) (bs ++ zs') k e lf lm
      ∙ (sym (rest-free k)
      ∙ (sym (without-row xs ys r fs cs (bs ++ zs) k e lf lc)
      ∙ sym (ap (λ (t : Bool). cond t (record { name = text_of r.name; contents = cs ++ ms }) (file_of (xs ++ r ∷ ys) us k)) e))))
      (cases_Bool (r.number == k))

-- a new last row
pub made_at : (rows : List Row) (r : Row) (bytes : List ℕ) (k : ℕ) → r.size ≡ 0 → bearing r.number rows ≡ 0
    → file_of (rows ++ r ∷ []) bytes k ≡ cond (r.number == k) (empty_file (text_of r.name)) (file_of rows bytes k)
made_at rows r bytes k empty none =
    ⊎_elim
    (λ (e : nat_eq r.number k ≡ true).
    let n : bearing k rows ≡ 0 = subst (λ (j : ℕ). bearing j rows ≡ 0) (eqb-true r.number k e) none in
    found_behind rows [] r bytes k n e
    ∙ (ap (λ (n : ℕ). record { name = text_of r.name; contents = take n (drop (total rows) bytes) }) empty
    ∙ sym (ap (λ (t : Bool). cond t (empty_file (text_of r.name)) (file_of rows bytes k)) e)))
    (λ (e : nat_eq r.number k ≡ false).
    without_last rows r bytes k e
    ∙ sym (ap (λ (t : Bool). cond t (empty_file (text_of r.name)) (file_of rows bytes k)) e))
    (cases_Bool (r.number == k))

-- the list of files where one of them changes
pub files-set : (rows rows' : List Row) (bytes bytes' : List ℕ) (m : ℕ) (f : File) → length rows' ≡ length rows → m < length rows
    → ((k : ℕ) → k < length rows → file_of rows' bytes' k ≡ cond (m == k) f (file_of rows bytes k))
    → files_of rows' bytes' ≡ slice_set (files_of rows bytes) m f
files-set rows rows' bytes bytes' m f long lt each =
    let n = length rows in
    let l : length (files_of rows bytes) ≡ n = length-map-range_with_len (file_of rows bytes) 0 n in
    let l' : length (files_of rows' bytes') ≡ length rows' = length-map-range_with_len (file_of rows' bytes') 0 (length rows') in
    let s : length (slice_set (files_of rows bytes) m f) ≡ length (files_of rows bytes) = length-set (files_of rows bytes) m f in
    same_lists (files_of rows' bytes') (slice_set (files_of rows bytes) m f) (omega arith) λ k d h.
    get_or-map-range_with_len (file_of rows' bytes') 0 (length rows') k k d (omega arith) (omega arith)
    ∙ (each k (omega arith)
    ∙ ⊎_elim
    (λ (e : k ≡ m).
    let t : nat_eq m k ≡ true = eq-eqb m k (sym e) in
    ap (λ (b : Bool). cond b f (file_of rows bytes k)) t ∙ sym (ap (λ (j : ℕ). slice_index_or (slice_set (files_of rows bytes) m f) j d) e ∙ get_or-set_same (files_of rows bytes) m f d (omega arith)))
    (λ (ne : k ≡ m → ⊥).
    let t : nat_eq m k ≡ false = ne_eqb m k (λ g. ne (sym g)) in
    ap (λ (b : Bool). cond b f (file_of rows bytes k)) t
    ∙ sym (get_or-set_other (files_of rows bytes) m k f d ne ∙ get_or-map-range_with_len (file_of rows bytes) 0 n k k d (omega arith) (omega arith)))
    (cases_eq k m))
