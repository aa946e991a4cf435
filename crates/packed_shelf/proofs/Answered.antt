-- What a packed shelf answers to a change, by how much there is room for.
use Rattle.std.proofs.Common.{◌≡◌, ℕ, ◌+◌, ◌-◌, ◌<◌, ◌≤◌, true, false, cond, not, ◌&&◌, leb, List, length, get_or, set, is_ok, Some, Ok, Err, Option, Result, unwrap_or, sym, refl, ap, ◌∙◌, arith, length-set}
use Rattle.std.proofs.lemmas.Bool.{le-leb, lt-leb, lt-ltb}
use Rattle.shelf.specs.declared.fault.ShelfFault.{ShelfFault}
use Rattle.shelf.specs.declared.fault.ShelfFault.TheVariants.{Full}
use Rattle.shelf.specs.Name.{is_name}
use Rattle.shelf.specs.Shelf.{File, Shelf, empty_file, with_files, name_at, present, held, lookup_answer, emptied, clear_answer, clear_after}
use Rattle.shelf.proofs.Lookup.{found_name}
use Rattle.packed_shelf.specs.declared.row.Row.{Row}
use Rattle.packed_shelf.specs.Clearing.{old_emptied, old_answer, old_after, new_made, new_answer}
use Rattle.packed_shelf.specs.Packed.{packed}
use Rattle.packed_shelf.specs.Rows.{total, Placed}
use Rattle.packed_shelf.specs.After.{old_held, new_held}
use Rattle.packed_shelf.specs.Kept.{Kept, placed-contents}
use Rattle.packed_shelf.specs.Shelved.{files-length}

module _ (rows : List Row) (bytes : List ℕ) (kept : Kept rows bytes) where
  module _ (k p : ℕ) (placed : Placed rows k p) where
    here : present (packed rows bytes) k ≡ true
    here = (placed-contents rows bytes kept k p placed).0

    module _ (r : Row) (is : r ≡ get_or rows p r) (size : ℕ) where
      pub old_full : length bytes < total rows - r.size + size → old_answer (packed rows bytes) k size ≡ Err Full
      old_full over =
          let at = here in
          let h = old_held rows bytes kept k p placed r is in
          let n = held (old_emptied (packed rows bytes) k) + size in
          let full : leb (held (old_emptied (packed rows bytes) k) + size) (length bytes) ≡ false = lt-leb n (length bytes) (omega arith) in
          rw (at, full) refl

      pub old_fits : total rows - r.size + size ≤ length bytes → old_answer (packed rows bytes) k size ≡ Ok k
      old_fits room =
          let at = here in
          let h = old_held rows bytes kept k p placed r is in
          let n = held (old_emptied (packed rows bytes) k) + size in
          let fits : leb (held (old_emptied (packed rows bytes) k) + size) (length bytes) ≡ true = le-leb n (length bytes) (omega arith) in
          rw (at, fits) refl

  module _ (n : List ℕ) (size : ℕ) where
    pub new_fits : length rows < 8 → total rows + size ≤ length bytes → new_answer (packed rows bytes) n size ≡ Ok (length rows)
    new_fits few room =
        let h = (new_held rows bytes kept n).0 in
        let l = (new_held rows bytes kept n).1 in
        let fits : leb (held (new_made (packed rows bytes) n) + size) (length bytes) ≡ true = le-leb (held (new_made (packed rows bytes) n) + size) (length bytes) (omega arith) in
        let free : leb (length (new_made (packed rows bytes) n)) 8 ≡ true = le-leb (length (new_made (packed rows bytes) n)) 8 (omega arith) in
        rw (free, fits) (ap Ok (files-length rows bytes))

-- clearing a good name that is not protected, by what looking it up answers
module _ (s : Shelf) (n : List ℕ) (size : ℕ) (good : is_name n ≡ true) (free : s.protects n ≡ false) where
  by_lookup : (o : Option ℕ) → lookup_answer s n ≡ o
      → clear_answer s n size
      ≡ cond (not (leb (length (emptied s.files n o)) 8 && leb (held (emptied s.files n o) + size) s.capacity)) (Err Full) (Ok (unwrap_or o (length s.files)))
  by_lookup o e = rw (good, free, e) refl

  after-lookup : (o : Option ℕ) → lookup_answer s n ≡ o → clear_after s n size ≡ cond (is_ok (clear_answer s n size)) (with_files s (emptied s.files n o)) s
  after-lookup o e = ap (λ (q : Option ℕ). cond (is_ok (clear_answer s n size)) (with_files s (emptied s.files n q)) s) e

  pub clear_old : (k : ℕ) → length s.files ≤ 8 → lookup_answer s n ≡ Some k → (clear_answer s n size ≡ old_answer s k size) × (clear_after s n size ≡ old_after s k size)
  clear_old k few e =
      let f = found_name s n k e in
      let at : present s k ≡ true = lt-ltb k (length s.files) f.0 in
      let same : emptied s.files n (Some k) ≡ old_emptied s k = ap (λ (m : List ℕ). set s.files k (empty_file m)) (sym f.1) in
      let l = length-set s.files k (empty_file (name_at s.files k)) in
      let fits : leb (length (old_emptied s k)) 8 ≡ true = le-leb (length (old_emptied s k)) 8 (omega arith) in
      let a : clear_answer s n size ≡ old_answer s k size = by_lookup (Some k) e ∙ rw (same, fits, at) refl in (
        a,
        after-lookup (Some k) e
            ∙ (ap (λ (fs : List File). cond (is_ok (clear_answer s n size)) (with_files s fs) s) same
            ∙ ap (λ (q : Result ℕ ShelfFault). cond (is_ok q) (with_files s (old_emptied s k)) s) a),
      )
