-- The shifts put rows and bytes where the definitions of the moves have them.
use Rattle.std.specs.Prelude.{◌≡◌, ℕ, zero, suc, ◌+◌, ◌-◌, ◌<◌, ◌≤◌, List, [], ◌∷◌, ◌++◌, map, length, take, drop, set, slice_index_or, slice_set, refl}
use Rattle.std.proofs.Common.{sym, ap, ◌∙◌, arith, rules}
use borrow.Rule.Slice.PartMut.{put_mid}
use Rattle.std.proofs.lemmas.List.{places, same_lists, take_all, drop_more, get_or-set_same}
use Rattle.std.proofs.lemmas.List.Sums.{sum_by_more, sum_by-take-drop}
use Rattle.std.proofs.lemmas.Bool.{cases_eq, cond-true, and_from, le-leb}
use Rattle.shift.specs.Shift.{shifted, shift_after, inside}
use Rattle.packed_shelf.specs.declared.row.Row.{Row}
use Rattle.packed_shelf.specs.Moves.{sized, longer, row_at, start_at, end_at, behind, rows_emptied, bytes_emptied, rows_lengthened, bytes_lengthened}
use Rattle.packed_shelf.specs.Rows.{total}

shift-inside : {X : Type 0} (xs : List X) (from to n : ℕ) → from + n ≤ length xs → to + n ≤ length xs → shift_after xs from to n ≡ shifted xs from to n
shift-inside xs from to n a b =
    cond-true (inside xs from to n) (shifted xs from to n) xs (and_from _ _ (le-leb (from + n) (length xs) a) (le-leb (to + n) (length xs) b))

pub total_all : (rows : List Row) → total (take (length rows) rows) ≡ total rows
total_all rows = ap total (take_all (length rows) rows (omega arith))

-- some row stands at p
pub a_row : (rows : List Row) (p : ℕ) → p < length rows → (r : Row) × (r ≡ slice_index_or rows p r)
a_row [] p lt = absurd (omega arith)
a_row (x ∷ xs) zero lt = (x, refl)
a_row (x ∷ xs) (suc p) lt = a_row xs p (omega arith)

module _ (rows : List Row) (p : ℕ) (r : Row) (lt : p < length rows) (is : r ≡ slice_index_or rows p r) where
  pub row_at_lem : row_at rows p ≡ r ∷ []
  row_at_lem = ap (take 1) (drop_more rows p r lt ∙ ap (λ (x : Row). x ∷ drop (p + 1) rows) (sym is))

  pub end_is : end_at rows p ≡ start_at rows p + r.size
  end_is = sum_by_more (λ x. x.size) rows p r lt ∙ ap (λ (x : Row). start_at rows p + x.size) (sym is)

  pub behind_is : end_at rows p + behind rows p ≡ total rows
  behind_is = sum_by-take-drop (λ x. x.size) rows (p + 1)

  pub rows_emptied_lem : set (shift_after rows (p + 1) p (length rows - 1 - p)) (length rows - 1) (sized 0 r) ≡ rows_emptied rows p
  rows_emptied_lem =
      let at = row_at_lem in
      let z = sized 0 r in
      let goal : set (shifted rows (p + 1) p (length rows - 1 - p)) (length rows - 1) z ≡ take p rows ++ (drop (p + 1) rows ++ z ∷ []) =
      same_lists _ _ (search (rules, places)) (λ k d h. grind (arith, places, get_or-set_same, cases_eq k (length rows - 1))) in
      ap (λ (xs : List Row). set xs (length rows - 1) z) (shift-inside rows (p + 1) p (length rows - 1 - p) (omega arith) (omega arith))
      ∙ (goal ∙ ap (λ (xs : List Row). take p rows ++ (drop (p + 1) rows ++ map (sized 0) xs)) (sym at))

  pub rows_lengthened_lem : (n : ℕ) → slice_set rows p (longer n r) ≡ rows_lengthened rows p n
  rows_lengthened_lem n =
      let z = longer n r in
      let goal : set rows p z ≡ take p rows ++ ((z ∷ []) ++ drop (p + 1) rows) =
      same_lists _ _ (search (rules, places)) (λ k d h. grind (arith, places, get_or-set_same, cases_eq k p)) in
      goal ∙ ap (λ (xs : List Row). take p rows ++ (map (longer n) xs ++ drop (p + 1) rows)) (sym row_at_lem)

  module _ (bytes : List ℕ) (used : ℕ) (u : used ≡ total rows) where
    pub bytes_emptied_lem : total rows ≤ length bytes → (start end : ℕ) → start ≡ start_at rows p → end ≡ end_at rows p
        → shift_after bytes end start (used - end) ≡ bytes_emptied rows p bytes
    bytes_emptied_lem fits start end s e =
        let b = behind_is in
        let l = end_is in
        let tail : used - end ≡ behind rows p = omega arith in
        shift-inside bytes end start (used - end) (omega arith) (omega arith)
        ∙ (ap (λ (n : ℕ). shifted bytes end start n) tail ∙ rw (s, e) refl)

    pub bytes_lengthened_lem : (more : List ℕ) → total rows + length more ≤ length bytes → (end : ℕ) → end ≡ end_at rows p
        → put_mid end (end + length more - end) (shift_after bytes end (end + length more) (used - end)) more ≡ bytes_lengthened rows p bytes more
    bytes_lengthened_lem more fits end e =
        let b = behind_is in
        let tail : used - end ≡ behind rows p = omega arith in
        let h : end + behind rows p ≡ total rows = omega arith in
        let m = length more in
        let n = behind rows p in
        let goal : put_mid end (end + m - end) (shifted bytes end (end + m) n) more ≡ take end bytes ++ (more ++ (take n (drop end bytes) ++ drop (total rows + m) bytes)) =
        same_lists _ _ (search (rules, places)) (λ k d q. grind (arith, places)) in
        ap (λ (xs : List ℕ). put_mid end (end + m - end) xs more)
        (shift-inside bytes end (end + m) (used - end) (omega arith) (omega arith) ∙ ap (λ (j : ℕ). shifted bytes end (end + m) j) tail)
        ∙ (goal ∙ ap (λ (j : ℕ). take j bytes ++ (more ++ (take n (drop j bytes) ++ drop (total rows + m) bytes))) e)
