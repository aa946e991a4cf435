-- Where a row's file is among the files, and what the moves make of files, numbers and sizes.
use Rattle.std.specs.Prelude.{◌≡◌, ℕ, ◌+◌, ◌<◌, ◌≤◌, Bool, true, cond, List, [], ◌∷◌, ◌++◌, map, length, take, drop, ◌==◌, nat_eq, nat_lt, slice_index_or, slice_set, refl}
use Rattle.std.proofs.Common.{sym, ap, ◌∙◌, append_assoc, ⊎_elim, arith, rules}
use Rattle.std.proofs.lemmas.List.FromFn.{length-map-range_with_len, get_or-map-range_with_len}
use Rattle.std.proofs.lemmas.List.{places, same_lists, length-take-le, length_push, get_or_append_left, get_or_push, take-append-drop, drop_more}
use Rattle.std.proofs.lemmas.List.Sums.{sum_by_push}
use Rattle.std.proofs.lemmas.Bool.{eq-eqb, ne_eqb, cases_lt, lt-ltb, cond-true}
use Rattle.std.proofs.lemmas.Bool.Decides.{nat_tests}
use Rattle.shelf.specs.Shelf.{File, no_file, empty_file}
use Rattle.shelf.specs.Text.{text_of}
use Rattle.packed_shelf.specs.declared.row.Row.{Row}
use Rattle.packed_shelf.specs.Moves.{sized, longer, start_at, end_at, behind, rows_emptied, bytes_emptied, rows_lengthened, bytes_lengthened}
use Rattle.packed_shelf.specs.Packed.{file_of, files_of}
use Rattle.packed_shelf.specs.Rows.{total, bearing, Numbered}
use Rattle.packed_shelf.specs.Changes.{total-append, bearing-append, emptied_at, lengthened_at, made_at, files-set}
use Rattle.packed_shelf.specs.Stored.{stored, found_behind, total-cons, bearing-cons}
use Rattle.packed_shelf.specs.Moved.{row_at_lem, end_is, behind_is}

module _ (rows : List Row) (bytes : List ℕ) where
  pub files-length : length (files_of rows bytes) ≡ length rows
  files-length = length-map-range_with_len (file_of rows bytes) 0 (length rows)

  pub file_is : (k : ℕ) → k < length rows → slice_index_or (files_of rows bytes) k no_file ≡ file_of rows bytes k
  file_is k lt = get_or-map-range_with_len (file_of rows bytes) 0 (length rows) k k no_file lt (omega arith)

-- a number is borne by one row exactly if it is below the count
pub borne : (rows : List Row) → Numbered rows → (k : ℕ) → k < length rows → bearing k rows ≡ 1
borne rows num k lt = num k ∙ cond-true (nat_lt k (length rows)) 1 0 (lt-ltb k (length rows) lt)

pub not-borne : (rows : List Row) → Numbered rows → (k : ℕ) → bearing k rows ≡ 0 → length rows ≤ k
not-borne rows num k none = let b = num k in grind (arith, nat_tests)

module _ (rows : List Row) (num : Numbered rows) (p : ℕ) (r : Row) (lt : p < length rows) (is : r ≡ slice_index_or rows p r) where
  pub parted : rows ≡ take p rows ++ r ∷ drop (p + 1) rows
  parted = sym (take-append-drop p rows) ∙ ap (λ (zs : List Row). take p rows ++ zs) (drop_more rows p r lt ∙ ap (λ (x : Row). x ∷ drop (p + 1) rows) (sym is))

  -- how many rows bear k: those in front, this one, those behind
  parts_bear : (k : ℕ) → bearing k rows ≡ bearing k (take p rows) + (cond (r.number == k) 1 0 + bearing k (drop (p + 1) rows))
  parts_bear k =
      ap (bearing k) parted ∙ (bearing-append k (take p rows) (r ∷ drop (p + 1) rows) ∙ ap (λ (n : ℕ). bearing k (take p rows) + n) (bearing-cons k r (drop (p + 1) rows)))

  pub number-below : r.number < length rows
  number-below =
      let b = parts_bear r.number in
      let n = num r.number in
      let e : nat_eq r.number r.number ≡ true = eq-eqb r.number r.number refl in
      grind (arith, nat_tests)

  none_before : bearing r.number (take p rows) ≡ 0
  none_before =
      let b = parts_bear r.number in
      let n = num r.number in
      let e : nat_eq r.number r.number ≡ true = eq-eqb r.number r.number refl in
      grind (arith, nat_tests)

  pub row-file : (bytes : List ℕ) → file_of rows bytes r.number ≡ stored r (drop (start_at rows p) bytes)
  row-file bytes =
      ap (λ (rs : List Row). file_of rs bytes r.number) parted
      ∙ found_behind (take p rows) (drop (p + 1) rows) r bytes r.number none_before (eq-eqb r.number r.number refl)

  -- the bytes in front of the file, its own, those of the files behind it, and the free ones
  bytes-parted : (bytes : List ℕ) → total rows ≤ length bytes
      → bytes ≡ take (start_at rows p) bytes ++ (take r.size (drop (start_at rows p) bytes) ++ (take (behind rows p) (drop (end_at rows p) bytes) ++ drop (total rows) bytes))
  bytes-parted bytes fits =
      let e = end_is rows p r lt is in
      let b = behind_is rows p r lt is in
      same_lists _ _ (search (rules, places)) (λ k d h. grind (arith, places))

  module _ (bytes : List ℕ) (fits : total rows ≤ length bytes) where
    start-long : length (take (start_at rows p) bytes) ≡ start_at rows p
    start-long = let e = end_is rows p r lt is in let b = behind_is rows p r lt is in length-take-le (start_at rows p) bytes (omega arith)

    pub own_long : length (take r.size (drop (start_at rows p) bytes)) ≡ r.size
    own_long = let e = end_is rows p r lt is in let b = behind_is rows p r lt is in search (rules, places)

    behind-long : length (take (behind rows p) (drop (end_at rows p) bytes)) ≡ behind rows p
    behind-long = let e = end_is rows p r lt is in let b = behind_is rows p r lt is in search (rules, places)

    pub emptied-file : (k : ℕ) → k < length rows
        → file_of (rows_emptied rows p) (bytes_emptied rows p bytes) k ≡ cond (r.number == k) (empty_file (text_of r.name)) (file_of rows bytes k)
    emptied-file k h =
        ap (λ (rs : List Row). file_of (take p rows ++ (drop (p + 1) rows ++ map (sized 0) rs)) (bytes_emptied rows p bytes) k) (row_at_lem rows p r lt is)
        ∙ (emptied_at (take p rows) (drop (p + 1) rows) r
        (take (start_at rows p) bytes) (take r.size (drop (start_at rows p) bytes)) (take (behind rows p) (drop (end_at rows p) bytes))
        (drop (total rows) bytes) (drop (start_at rows p + behind rows p) bytes)
        start-long own_long behind-long k (ap (bearing k) (sym parted) ∙ borne rows num k h)
        ∙ (ap (λ (bs : List ℕ). cond (r.number == k) (empty_file (text_of r.name)) (file_of (take p rows ++ r ∷ drop (p + 1) rows) bs k)) (sym (bytes-parted bytes fits))
        ∙ ap (λ (rs : List Row). cond (r.number == k) (empty_file (text_of r.name)) (file_of rs bytes k)) (sym parted)))

    pub lengthened_file : (more : List ℕ) (k : ℕ) → k < length rows
        → file_of (rows_lengthened rows p (length more)) (bytes_lengthened rows p bytes more) k
        ≡ cond (r.number == k) (record { name = text_of r.name; contents = take r.size (drop (start_at rows p) bytes) ++ more }) (file_of rows bytes k)
    lengthened_file more k h =
        let own = take r.size (drop (start_at rows p) bytes) in
        let f : File = record { name = text_of r.name; contents = own ++ more } in
        ap (λ (rs : List Row). file_of (take p rows ++ (map (longer (length more)) rs ++ drop (p + 1) rows)) (bytes_lengthened rows p bytes more) k) (row_at_lem rows p r lt is)
        ∙ (ap (λ (bs : List ℕ). file_of (take p rows ++ longer (length more) r ∷ drop (p + 1) rows) bs k) put-parted
        ∙ (lengthened_at (take p rows) (drop (p + 1) rows) r
        (take (start_at rows p) bytes) own (take (behind rows p) (drop (end_at rows p) bytes))
        (drop (total rows) bytes) (drop (total rows + length more) bytes)
        start-long own_long behind-long more k (ap (bearing k) (sym parted) ∙ borne rows num k h)
        ∙ (ap (λ (bs : List ℕ). cond (r.number == k) f (file_of (take p rows ++ r ∷ drop (p + 1) rows) bs k)) (sym (bytes-parted bytes fits))
        ∙ ap (λ (rs : List Row). cond (r.number == k) f (file_of rs bytes k)) (sym parted))))
      where
        put-parted : bytes_lengthened rows p bytes more
            ≡ take (start_at rows p) bytes ++ ((take r.size (drop (start_at rows p) bytes) ++ more) ++ (take (behind rows p) (drop (end_at rows p) bytes) ++ drop (total rows + length more) bytes))
        put-parted =
            let e = end_is rows p r lt is in
            let b = behind_is rows p r lt is in
            let front : take (end_at rows p) bytes ≡ take (start_at rows p) bytes ++ take r.size (drop (start_at rows p) bytes) =
            same_lists _ _ (search (rules, places)) (λ k d h. grind (arith, places)) in
            rw front (simp append_assoc)

  pub emptied-long : length (rows_emptied rows p) ≡ length rows
  emptied-long =
      ap (λ (rs : List Row). length (take p rows ++ (drop (p + 1) rows ++ map (sized 0) rs))) (row_at_lem rows p r lt is) ∙ search (rules, places)

  pub lengthened_long : (n : ℕ) → length (rows_lengthened rows p n) ≡ length rows
  lengthened_long n =
      ap (λ (rs : List Row). length (take p rows ++ (map (longer n) rs ++ drop (p + 1) rows))) (row_at_lem rows p r lt is) ∙ search (rules, places)

  pub emptied-numbered : Numbered (rows_emptied rows p)
  emptied-numbered k =
      let b = parts_bear k in
      let z = sized 0 r in
      let q : bearing k (rows_emptied rows p) ≡ bearing k (take p rows) + (bearing k (drop (p + 1) rows) + (cond (r.number == k) 1 0 + 0)) =
      ap (λ (rs : List Row). bearing k (take p rows ++ (drop (p + 1) rows ++ map (sized 0) rs))) (row_at_lem rows p r lt is)
      ∙ (bearing-append k (take p rows) (drop (p + 1) rows ++ z ∷ [])
      ∙ ap (λ (n : ℕ). bearing k (take p rows) + n) (bearing-append k (drop (p + 1) rows) (z ∷ []) ∙ ap (λ (n : ℕ). bearing k (drop (p + 1) rows) + n) (bearing-cons k z []))) in
      let same : bearing k (rows_emptied rows p) ≡ bearing k rows = omega arith in
      same ∙ (num k ∙ ap (λ (n : ℕ). cond (nat_lt k n) 1 0) (sym emptied-long))

  pub lengthened_numbered : (n : ℕ) → Numbered (rows_lengthened rows p n)
  lengthened_numbered n k =
      let b = parts_bear k in
      let z = longer n r in
      let q : bearing k (rows_lengthened rows p n) ≡ bearing k (take p rows) + (cond (r.number == k) 1 0 + bearing k (drop (p + 1) rows)) =
      ap (λ (rs : List Row). bearing k (take p rows ++ (map (longer n) rs ++ drop (p + 1) rows))) (row_at_lem rows p r lt is)
      ∙ (bearing-append k (take p rows) (z ∷ drop (p + 1) rows) ∙ ap (λ (m : ℕ). bearing k (take p rows) + m) (bearing-cons k z (drop (p + 1) rows))) in
      q ∙ (sym b ∙ (num k ∙ ap (λ (m : ℕ). cond (nat_lt k m) 1 0) (sym (lengthened_long n))))

  pub emptied-total : total (rows_emptied rows p) + r.size ≡ total rows
  emptied-total =
      let e = end_is rows p r lt is in
      let b = behind_is rows p r lt is in
      let z = sized 0 r in
      let q : total (rows_emptied rows p) ≡ total (take p rows) + (total (drop (p + 1) rows) + (0 + 0)) =
      ap (λ (rs : List Row). total (take p rows ++ (drop (p + 1) rows ++ map (sized 0) rs))) (row_at_lem rows p r lt is)
      ∙ (total-append (take p rows) (drop (p + 1) rows ++ z ∷ [])
      ∙ ap (λ (n : ℕ). total (take p rows) + n) (total-append (drop (p + 1) rows) (z ∷ []) ∙ ap (λ (n : ℕ). total (drop (p + 1) rows) + n) (total-cons z []))) in
      omega arith

  pub lengthened_total : (n : ℕ) → total (rows_lengthened rows p n) ≡ total rows + n
  lengthened_total n =
      let e = end_is rows p r lt is in
      let b = behind_is rows p r lt is in
      let z = longer n r in
      let q : total (rows_lengthened rows p n) ≡ total (take p rows) + ((r.size + n) + total (drop (p + 1) rows)) =
      ap (λ (rs : List Row). total (take p rows ++ (map (longer n) rs ++ drop (p + 1) rows))) (row_at_lem rows p r lt is)
      ∙ (total-append (take p rows) (z ∷ drop (p + 1) rows) ∙ ap (λ (m : ℕ). total (take p rows) + m) (total-cons z (drop (p + 1) rows))) in
      omega arith

  pub emptied-files : (bytes : List ℕ) → total rows ≤ length bytes
      → files_of (rows_emptied rows p) (bytes_emptied rows p bytes) ≡ slice_set (files_of rows bytes) r.number (empty_file (text_of r.name))
  emptied-files bytes fits =
      files-set rows (rows_emptied rows p) bytes (bytes_emptied rows p bytes) r.number (empty_file (text_of r.name)) emptied-long number-below (emptied-file bytes fits)

  pub lengthened_files : (bytes more : List ℕ) → total rows ≤ length bytes
      → files_of (rows_lengthened rows p (length more)) (bytes_lengthened rows p bytes more)
      ≡ slice_set (files_of rows bytes) r.number (record { name = text_of r.name; contents = take r.size (drop (start_at rows p) bytes) ++ more })
  lengthened_files bytes more fits =
      files-set rows (rows_lengthened rows p (length more)) bytes (bytes_lengthened rows p bytes more) r.number
      (record { name = text_of r.name; contents = take r.size (drop (start_at rows p) bytes) ++ more }) (lengthened_long (length more)) number-below (lengthened_file bytes fits more)

-- a new row behind the others
module _ (rows : List Row) (num : Numbered rows) (r : Row) (e : r.number ≡ length rows) where
  none_yet : bearing r.number rows ≡ 0
  none_yet = let n = num r.number in grind (arith, nat_tests)

  pub made-numbered : Numbered (rows ++ r ∷ [])
  made-numbered k =
      let b : bearing k (rows ++ r ∷ []) ≡ bearing k rows + (cond (r.number == k) 1 0 + 0) =
      bearing-append k rows (r ∷ []) ∙ ap (λ (n : ℕ). bearing k rows + n) (bearing-cons k r []) in
      let n = num k in
      let l = length_push rows r in
      let c : bearing k rows + (cond (r.number == k) 1 0 + 0) ≡ cond (nat_lt k (length rows + 1)) 1 0 = grind (arith, nat_tests) in
      b ∙ (c ∙ ap (λ (m : ℕ). cond (nat_lt k m) 1 0) (sym l))

  pub made-total : r.size ≡ 0 → total (rows ++ r ∷ []) ≡ total rows
  made-total z = let t = sum_by_push (λ (x : Row). x.size) rows r in omega arith

  pub made-files : (bytes : List ℕ) → r.size ≡ 0 → files_of (rows ++ r ∷ []) bytes ≡ files_of rows bytes ++ empty_file (text_of r.name) ∷ []
  made-files bytes z =
      let f = empty_file (text_of r.name) in
      let fs = files_of rows bytes in
      let gs = files_of (rows ++ r ∷ []) bytes in
      let lr = length_push rows r in
      let lf = files-length rows bytes in
      let lg = files-length (rows ++ r ∷ []) bytes in
      let lp = length_push fs f in
      same_lists gs (fs ++ f ∷ []) (omega arith) λ k d h.
      get_or-map-range_with_len (file_of (rows ++ r ∷ []) bytes) 0 (length (rows ++ r ∷ [])) k k d (omega arith) (omega arith)
      ∙ (made_at rows r bytes k z none_yet
      ∙ ⊎_elim
      (λ (q : k < length rows).
      ap (λ (b : Bool). cond b f (file_of rows bytes k)) (ne_eqb r.number k (λ g. omega arith))
      ∙ sym (get_or_append_left fs (f ∷ []) d k (omega arith) ∙ get_or-map-range_with_len (file_of rows bytes) 0 (length rows) k k d q (omega arith)))
      (λ (q : length rows ≤ k).
      ap (λ (b : Bool). cond b f (file_of rows bytes k)) (eq-eqb r.number k (omega arith)) ∙ sym (get_or_push fs f d k (omega arith)))
      (cases_lt k (length rows)))
