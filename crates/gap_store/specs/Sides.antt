-- The lines in front of the gap and those behind it, the room between, and where a line lies.
use Rattle.std.specs.Prelude.{◌≡◌, ℕ, ◌+◌, ◌-◌, ◌*◌, ◌<◌, ◌≤◌, true, List, ◌++◌, length, get_or, take, drop, slice_index_or}
use Rattle.std.proofs.Common.{sym, ap, ◌∙◌, subst, ⊎_elim, arith, rules}
use Rattle.std.proofs.lemmas.List.{places, same_lists, length-take-le, length-drop, take-append-le}
use Rattle.std.proofs.lemmas.Bool.{cases_lt}
use Rattle.std.proofs.lemmas.Bool.Decides.{nat_tests}
use Rattle.lines.specs.Store.{line_at}
use Rattle.gap_store.specs.declared.row.Row.{Row}
use Rattle.gap_store.specs.Gaps.{held, place}
use Rattle.gap_store.specs.Rows.{no_row, total, cut, laid, gap_meaning}
use Rattle.gap_store.specs.BackToBack.{total-append, length_cut, cut-append, cut_at, laid-total, laid_bound, laid_at}
use Rattle.gap_store.specs.Moves.{length_held}

-- bytes in front of the gap, and behind it, as they stand in what is held
in_front : (bytes : List ℕ) (p q start len : ℕ) → start + len ≤ p → p ≤ length bytes → take len (drop start (held bytes p q)) ≡ take len (drop start bytes)
in_front bytes p q start len le lt = same_lists _ _ (search (rules, places)) (λ k d h. grind (arith, places))

from_behind : (bytes : List ℕ) (p q x : ℕ) → p ≤ length bytes → drop (p + x) (held bytes p q) ≡ drop (q + x) bytes
from_behind bytes p q x le = same_lists _ _ (search (rules, places)) (λ k d h. grind (arith, places))

take_behind : {X : Type 0} (xs ys : List X) (f k : ℕ) → length xs ≡ f → f ≤ k → take k (xs ++ ys) ≡ xs ++ take (k - f) ys
take_behind xs ys f k e le = same_lists _ _ (search (rules, places)) (λ k d h. grind (arith, places))

-- the rows and the bytes of a store, as its invariant has them
module _ (rows : List Row) (f b : ℕ) (bytes : List ℕ) (p q : ℕ)
    (order : f ≤ b) (last : b ≤ length rows) (roomy : length bytes ≡ 255 * length rows)
    (front : laid 0 (take f rows) p ≡ true) (behind : laid q (drop b rows) (length bytes) ≡ true) where
  long : length (take f rows) ≡ f
  long = length-take-le f rows (omega arith)

  -- the gap in the bytes has room for a line of full length for each row of the gap in the rows
  pub room : p + 255 * (b - f) ≤ q
  room =
      let u = laid_bound 0 (take f rows) p front in
      let v = laid_bound q (drop b rows) (length bytes) behind in
      let w = length-drop b rows in
      omega (arith, long)

  pub stop : q ≤ length bytes
  stop = let v = laid-total q (drop b rows) (length bytes) behind in omega arith

  pub front-total : p ≡ total (take f rows)
  front-total = let u = laid-total 0 (take f rows) p front in omega arith

  pub sides : (gap_meaning rows f b bytes p q).lines ≡ cut (take p bytes) (take f rows) ++ cut (drop q bytes) (drop b rows)
  sides = cut-append (take p bytes) (drop q bytes) (take f rows) (drop b rows) (length-take-le p bytes (omega (arith, room, stop)) ∙ front-total)

  pub count : length (gap_meaning rows f b bytes p q).lines ≡ f + (length rows - b)
  count = length_cut (held bytes p q) (held rows f b) ∙ length_held rows f b order last

  -- line n, by the row where it lies
  module _ (n : ℕ) (one : 1 ≤ n) (within : n ≤ f + (length rows - b)) where
    pub row_at_lem : get_or (held rows f b) (n - 1) no_row ≡ slice_index_or rows (place f b n) no_row
    row_at_lem = grind (arith, places, nat_tests)

    -- a row in front of the gap, or behind it: where its bytes start in what is held
    row_front : n ≤ f → slice_index_or rows (place f b n) no_row ≡ slice_index_or (take f rows) (n - 1) no_row
    row_front lt = grind (arith, places, nat_tests)

    row_behind : f < n → slice_index_or rows (place f b n) no_row ≡ slice_index_or (drop b rows) (n - 1 - f) no_row
    row_behind lt = grind (arith, places, nat_tests)

    abbrev row : Row
    row = slice_index_or rows (place f b n) no_row

    -- the row's bytes lie within the bytes, and within what is held they stand behind those of the rows in front
    pub record Lies : Type 0 where
      pub fits : row.start + row.len ≤ length bytes
      pub short : row.len ≤ 255
      pub text : take row.len (drop (total (take (n - 1) (held rows f b))) (held bytes p q)) ≡ take row.len (drop row.start bytes)

    lies_front : n ≤ f → Lies
    lies_front lt =
        let w = laid_at 0 (take f rows) p (n - 1) no_row front (omega (arith, long)) in
        let e = row_front lt in
        let s : row.start ≡ total (take (n - 1) (take f rows)) = ap (λ (r : Row). r.start) e ∙ omega (arith, w.0) in
        let t : row.start + row.len ≤ p = subst (λ (r : Row). r.start + r.len ≤ p) (sym e) w.1 in
        let same : take (n - 1) (held rows f b) ≡ take (n - 1) (take f rows) = take-append-le (n - 1) (take f rows) (drop b rows) (omega (arith, long)) in
        let r = room in
        let z = stop in
        record {
          fits = omega arith;
          short = subst (λ (r : Row). r.len ≤ 255) (sym e) w.2;
          text =
              ap (λ (k : ℕ). take row.len (drop k (held bytes p q))) (ap total same ∙ sym s)
              ∙ in_front bytes p q row.start row.len t (omega arith);
        }

    lies_behind : f < n → Lies
    lies_behind lt =
        let k = length-drop b rows in
        let w = laid_at q (drop b rows) (length bytes) (n - 1 - f) no_row behind (omega arith) in
        let e = row_behind lt in
        let s : row.start ≡ q + total (take (n - 1 - f) (drop b rows)) = ap (λ (r : Row). r.start) e ∙ w.0 in
        let t : row.start + row.len ≤ length bytes = subst (λ (r : Row). r.start + r.len ≤ length bytes) (sym e) w.1 in
        let same : take (n - 1) (held rows f b) ≡ take f rows ++ take (n - 1 - f) (drop b rows) = take_behind (take f rows) (drop b rows) f (n - 1) long (omega arith) in
        let sum = total-append (take f rows) (take (n - 1 - f) (drop b rows)) in
        let first = front-total in
        let r = room in
        let z = stop in
        record {
          fits = t;
          short = subst (λ (r : Row). r.len ≤ 255) (sym e) w.2;
          text =
              ap (λ (k : ℕ). take row.len (drop k (held bytes p q))) (ap total same ∙ sum ∙ omega arith)
              ∙ ap (take row.len) (from_behind bytes p q (total (take (n - 1 - f) (drop b rows))) (omega arith) ∙ ap (λ (k : ℕ). drop k bytes) (sym s));
        }

    pub lies : Lies
    lies = ⊎_elim (λ (lt : f < n). lies_behind lt) (λ (le : n ≤ f). lies_front le) (cases_lt f n)

    pub line_here : line_at (gap_meaning rows f b bytes p q) n ≡ record { text = take row.len (drop row.start bytes); tag = row.tag }
    line_here =
        cut_at (held bytes p q) (held rows f b) (n - 1) no_row (let c = length_held rows f b order last in omega arith)
        ∙ ap (λ (r : Row). record { text = take r.len (drop (total (take (n - 1) (held rows f b))) (held bytes p q)); tag = r.tag }) row_at_lem
        ∙ ap (λ (t : List ℕ). record { text = t; tag = row.tag }) lies.text
