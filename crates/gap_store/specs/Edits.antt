-- What a line put in or removed at the gap, or a tag that is set, makes of rows, bytes and lines.
use Rattle.std.specs.Prelude.{◌≡◌, ℕ, zero, suc, ◌+◌, ◌-◌, ◌*◌, ◌<◌, ◌≤◌, true, List, [], ◌∷◌, ◌++◌, length, get_or, take, drop, set, slice_index_or, slice_set, refl}
use Rattle.std.proofs.Common.{sym, ap, ◌∙◌, subst, ⊎_elim, arith, rules}
use Rattle.std.proofs.lemmas.List.{places, same_lists, append_assoc, drop_all, take_at, drop_at, take-set-le, drop-set-lt, drop-set-add, take_more, take_more_set, set-append_right, length-take-le, get_or-set_same}
use Rattle.std.proofs.lemmas.Bool.{cases_eq, cases_lt, eq-eqb}
use Rattle.std.proofs.lemmas.Bool.Decides.{nat_tests}
use Rattle.lines.specs.Line.{Line, blank}
use Rattle.lines.specs.Store.{line_at, inserted}
use Rattle.gap_store.specs.declared.row.Row.{Row}
use Rattle.gap_store.specs.Gaps.{held, overwritten, place}
use Rattle.gap_store.specs.Rows.{no_row, total, cut, laid, gap_meaning}
use Rattle.gap_store.specs.BackToBack.{total-append, length_cut, cut-append, laid-total, laid_front, laid_join, laid_one, laid_at, laid-set}
use Rattle.gap_store.specs.Sides.{room, stop, front-total, sides}

-- a store that was just made: all of it is gap
module _ (rows : List Row) (bytes : List ℕ) (n m : ℕ) (r : length rows ≡ n) (b : length bytes ≡ m) where
  pub made_behind : laid m (drop n rows) (length bytes) ≡ true
  made_behind = subst (λ (rs : List Row). laid m rs (length bytes) ≡ true) (sym (drop_all n rows (omega arith))) (eq-eqb _ _ (omega arith))

  pub made-lines : (gap_meaning rows 0 n bytes 0 m).lines ≡ []
  made-lines = ap (cut (held bytes 0 m)) (drop_all n rows (omega arith))

-- a list, where an element comes in or goes behind the first ones
between : {X : Type 0} (xs ys : List X) (n : ℕ) (x : X) → length xs ≡ n → xs ++ (x ∷ ys) ≡ take n (xs ++ ys) ++ x ∷ drop n (xs ++ ys)
between xs ys n x e = sym (ap (λ us. us ++ x ∷ drop n (xs ++ ys)) (take_at xs ys n e) ∙ ap (λ us. xs ++ x ∷ us) (drop_at xs ys n e))

without : {X : Type 0} (xs ys : List X) (n : ℕ) (x : X) → 1 ≤ n → length xs ≡ n - 1 → xs ++ ys ≡ take (n - 1) ((xs ++ x ∷ []) ++ ys) ++ drop n ((xs ++ x ∷ []) ++ ys)
without xs ys n x one e = same_lists _ _ (search (rules, places)) (λ k d h. grind (arith, places))

module _ (rows : List Row) (f b : ℕ) (bytes : List ℕ) (p q : ℕ)
    (order : f ≤ b) (last : b ≤ length rows) (roomy : length bytes ≡ 255 * length rows)
    (front : laid 0 (take f rows) p ≡ true) (behind : laid q (drop b rows) (length bytes) ≡ true) where
  -- a line put in at the gap
  module _ (text : List ℕ) (tag : ℕ) (free : f < b) (short : length text ≤ 255) where
    abbrev new : Row
    new = record { start = p; len = length text; tag = tag }

    abbrev with_row : List Row
    with_row = slice_set rows f new

    abbrev with_text : List ℕ
    with_text = overwritten bytes p text

    fits : p + length text ≤ q
    fits = let r = room rows f b bytes p q order last roomy front behind in omega arith

    within : q ≤ length bytes
    within = stop rows f b bytes p q order last roomy front behind

    pub put-length : length with_text ≡ length bytes
    put-length = let a = fits in let z = within in search (rules, places)

    pub put_front : laid 0 (take (f + 1) with_row) (p + length text) ≡ true
    put_front =
        subst (λ (rs : List Row). laid 0 rs (p + length text) ≡ true) (sym (take_more_set rows f new (omega arith)))
        (laid_join 0 (take f rows) (new ∷ []) p (p + length text) front (laid_one new p refl short))

    pub put_behind : laid q (drop b with_row) (length with_text) ≡ true
    put_behind =
        subst (λ (n : ℕ). laid q (drop b with_row) n ≡ true) (sym put-length)
        (subst (λ (rs : List Row). laid q rs (length bytes) ≡ true) (sym (drop-set-lt b rows f new free)) behind)

    rows_held : held with_row (f + 1) b ≡ take f rows ++ (new ∷ drop b rows)
    rows_held =
        ap (λ (rs : List Row). rs ++ drop b with_row) (take_more_set rows f new (omega arith))
        ∙ append_assoc (take f rows) (new ∷ []) (drop b with_row)
        ∙ ap (λ (rs : List Row). take f rows ++ (new ∷ rs)) (drop-set-lt b rows f new free)

    bytes_held : held with_text (p + length text) q ≡ take p bytes ++ (text ++ drop q bytes)
    bytes_held = let a = fits in let z = within in same_lists _ _ (search (rules, places)) (λ k d h. grind (arith, places))

    cut_new : cut (text ++ drop q bytes) (new ∷ drop b rows) ≡ record { text = text; tag = tag } ∷ cut (drop q bytes) (drop b rows)
    cut_new =
        ap (λ (t : List ℕ). record { text = t; tag = tag } ∷ cut (drop (length text) (text ++ drop q bytes)) (drop b rows)) (take_at text (drop q bytes) (length text) refl)
        ∙ ap (λ (t : List ℕ). record { text = text; tag = tag } ∷ cut t (drop b rows)) (drop_at text (drop q bytes) (length text) refl)

    long : length (take p bytes) ≡ total (take f rows)
    long = let a = fits in let z = within in length-take-le p bytes (omega arith) ∙ front-total rows f b bytes p q order last roomy front behind

    long-lines : length (cut (take p bytes) (take f rows)) ≡ f
    long-lines = length_cut (take p bytes) (take f rows) ∙ length-take-le f rows (omega arith)

    pub put-lines : (gap_meaning with_row (f + 1) b with_text (p + length text) q).lines ≡ inserted (gap_meaning rows f b bytes p q).lines f (record { text = text; tag = tag })
    put-lines =
        ap (λ (rs : List Row). cut (held with_text (p + length text) q) rs) rows_held
        ∙ ap (λ (bs : List ℕ). cut bs (take f rows ++ (new ∷ drop b rows))) bytes_held
        ∙ cut-append (take p bytes) (text ++ drop q bytes) (take f rows) (new ∷ drop b rows) long
        ∙ ap (λ (ls : List Line). cut (take p bytes) (take f rows) ++ ls) cut_new
        ∙ between (cut (take p bytes) (take f rows)) (cut (drop q bytes) (drop b rows)) f (record { text = text; tag = tag }) long-lines
        ∙ ap (λ (ls : List Line). inserted ls f (record { text = text; tag = tag })) (sym (sides rows f b bytes p q order last roomy front behind))

  -- the line in front of the gap removed
  module _ (one : 1 ≤ f) where
    abbrev gone : Row
    gone = slice_index_or rows (f - 1) no_row

    parted : take f rows ≡ take (f - 1) rows ++ gone ∷ []
    parted = ap (λ (n : ℕ). take n rows) (omega arith) ∙ take_more rows (f - 1) no_row (omega arith)

    laid-parted : laid 0 (take (f - 1) rows ++ gone ∷ []) p ≡ true
    laid-parted = subst (λ (rs : List Row). laid 0 rs p ≡ true) parted front

    starts : gone.start ≡ total (take (f - 1) rows)
    starts =
        let w = laid_at 0 (take (f - 1) rows ++ gone ∷ []) p (f - 1) no_row laid-parted (search (rules, places)) in
        let r : get_or (take (f - 1) rows ++ gone ∷ []) (f - 1) no_row ≡ gone = grind (arith, places) in
        let t : take (f - 1) (take (f - 1) rows ++ gone ∷ []) ≡ take (f - 1) rows = take_at (take (f - 1) rows) (gone ∷ []) (f - 1) (length-take-le (f - 1) rows (omega arith)) in
        ap (λ (x : Row). x.start) (sym r) ∙ w.0 ∙ ap (λ (rs : List Row). 0 + total rs) t ∙ omega arith

    pub remove_front : laid 0 (take (f - 1) rows) gone.start ≡ true
    remove_front = subst (λ (n : ℕ). laid 0 (take (f - 1) rows) n ≡ true) (omega (arith, starts)) (laid_front 0 (take (f - 1) rows) (gone ∷ []) p laid-parted)

    pub lower : gone.start ≤ p
    lower =
        let t = laid-total 0 (take (f - 1) rows ++ gone ∷ []) p laid-parted in
        let u = total-append (take (f - 1) rows) (gone ∷ []) in
        omega (arith, starts)

    abbrev rest : List ℕ
    rest = drop gone.start (take p bytes)

    bytes-parted : take p bytes ≡ take gone.start bytes ++ rest
    bytes-parted = let l = lower in same_lists _ _ (search (rules, places)) (λ k d h. grind (arith, places))

    pub remove-lines : (gap_meaning rows (f - 1) b bytes gone.start q).lines ≡ take (f - 1) (gap_meaning rows f b bytes p q).lines ++ drop f (gap_meaning rows f b bytes p q).lines
    remove-lines =
        let r = room rows f b bytes p q order last roomy front behind in
        let z = stop rows f b bytes p q order last roomy front behind in
        let l = lower in
        let fs = cut (take gone.start bytes) (take (f - 1) rows) in
        let cs = cut (drop q bytes) (drop b rows) in
        let long : length (take gone.start bytes) ≡ total (take (f - 1) rows) = length-take-le gone.start bytes (omega arith) ∙ starts in
        let split : cut (take p bytes) (take f rows) ≡ fs ++ record { text = take gone.len rest; tag = gone.tag } ∷ [] =
        ap (λ (rs : List Row). cut (take p bytes) rs) parted
        ∙ ap (λ (bs : List ℕ). cut bs (take (f - 1) rows ++ gone ∷ [])) bytes-parted
        ∙ cut-append (take gone.start bytes) rest (take (f - 1) rows) (gone ∷ []) long in
        let all : (gap_meaning rows f b bytes p q).lines ≡ (fs ++ record { text = take gone.len rest; tag = gone.tag } ∷ []) ++ cs =
        sides rows f b bytes p q order last roomy front behind ∙ ap (λ (ls : List Line). ls ++ cs) split in
        let n : length fs ≡ f - 1 = length_cut (take gone.start bytes) (take (f - 1) rows) ∙ length-take-le (f - 1) rows (omega arith) in
        sides rows (f - 1) b bytes gone.start q (omega arith) last roomy remove_front behind
        ∙ without fs cs f (record { text = take gone.len rest; tag = gone.tag }) one n
        ∙ ap (λ (ls : List Line). take (f - 1) ls ++ drop f ls) (sym all)

-- a tag that is set in a row shows in its line
cut-set : (bytes : List ℕ) (rs : List Row) (k : ℕ) (r : Row) → r.len ≡ (get_or rs k r).len
    → cut bytes (slice_set rs k r) ≡ slice_set (cut bytes rs) k (record { text = (get_or (cut bytes rs) k blank).text; tag = r.tag })
cut-set bytes [] k r l = refl
cut-set bytes (x ∷ rs) zero r l =
    ap (λ (n : ℕ). record { text = take n bytes; tag = r.tag } ∷ cut (drop n bytes) rs) l
cut-set bytes (x ∷ rs) (suc k) r l =
    ap (λ (ls : List Line). record { text = take x.len bytes; tag = x.tag } ∷ ls) (cut-set (drop x.len bytes) rs k r l)

take-set-lt : {X : Type 0} (xs : List X) (n i : ℕ) (x : X) → i < n → n ≤ length xs → take n (slice_set xs i x) ≡ slice_set (take n xs) i x
take-set-lt xs n i x lt le = same_lists _ _ (search (rules, places)) (λ k d h. grind (arith, places, get_or-set_same, cases_eq k i))

module _ (rows : List Row) (f b : ℕ) (bytes : List ℕ) (p q : ℕ)
    (order : f ≤ b) (last : b ≤ length rows)
    (front : laid 0 (take f rows) p ≡ true) (behind : laid q (drop b rows) (length bytes) ≡ true)
    (n : ℕ) (one : 1 ≤ n) (within : n ≤ f + (length rows - b)) (r : Row)
    (start : r.start ≡ (get_or rows (place f b n) no_row).start) (len : r.len ≡ (get_or rows (place f b n) no_row).len) where
  abbrev i : ℕ
  i = place f b n

  i_front : n ≤ f → i ≡ n - 1
  i_front le = grind (arith, nat_tests)

  i_behind : f < n → i ≡ b + (n - 1 - f)
  i_behind lt = grind (arith, nat_tests)

  -- the row, as the two parts have it
  at_front : n ≤ f → slice_index_or (take f rows) (n - 1) r ≡ slice_index_or rows i no_row
  at_front le = let e = i_front le in grind (arith, places)

  at_behind : f < n → slice_index_or (drop b rows) (n - 1 - f) r ≡ slice_index_or rows i no_row
  at_behind lt = let e = i_behind lt in grind (arith, places)

  pub set_front : laid 0 (take f (slice_set rows i r)) p ≡ true
  set_front = ⊎_elim
      (λ (lt : f < n). subst (λ (rs : List Row). laid 0 rs p ≡ true) (sym (take-set-le f rows i r (omega (arith, i_behind lt)))) front)
      (λ (le : n ≤ f).
      let e : take f (slice_set rows i r) ≡ set (take f rows) (n - 1) r = ap (λ (k : ℕ). take f (slice_set rows k r)) (i_front le) ∙ take-set-lt rows f (n - 1) r (omega arith) (omega arith) in
      let s = start ∙ ap (λ (x : Row). x.start) (sym (at_front le)) in
      let l = len ∙ ap (λ (x : Row). x.len) (sym (at_front le)) in
      subst (λ (rs : List Row). laid 0 rs p ≡ true) (sym e) (laid-set 0 (take f rows) p (n - 1) r s l ∙ front))
      (cases_lt f n)

  pub set_behind : laid q (drop b (slice_set rows i r)) (length bytes) ≡ true
  set_behind = ⊎_elim
      (λ (lt : f < n).
      let e : drop b (slice_set rows i r) ≡ set (drop b rows) (n - 1 - f) r = ap (λ (k : ℕ). drop b (slice_set rows k r)) (i_behind lt) ∙ drop-set-add b rows (n - 1 - f) r in
      let s = start ∙ ap (λ (x : Row). x.start) (sym (at_behind lt)) in
      let l = len ∙ ap (λ (x : Row). x.len) (sym (at_behind lt)) in
      subst (λ (rs : List Row). laid q rs (length bytes) ≡ true) (sym e) (laid-set q (drop b rows) (length bytes) (n - 1 - f) r s l ∙ behind))
      (λ (le : n ≤ f). subst (λ (rs : List Row). laid q rs (length bytes) ≡ true) (sym (drop-set-lt b rows i r (omega (arith, i_front le)))) behind)
      (cases_lt f n)

  set_held : held (slice_set rows i r) f b ≡ slice_set (held rows f b) (n - 1) r
  set_held = ⊎_elim
      (λ (lt : f < n).
      let t : take f (slice_set rows (b + (n - 1 - f)) r) ≡ take f rows = take-set-le f rows (b + (n - 1 - f)) r (omega arith) in
      let d : drop b (slice_set rows (b + (n - 1 - f)) r) ≡ set (drop b rows) (n - 1 - f) r = drop-set-add b rows (n - 1 - f) r in
      ap (λ (k : ℕ). held (slice_set rows k r) f b) (i_behind lt)
      ∙ ap (λ (rs : List Row). rs ++ drop b (slice_set rows (b + (n - 1 - f)) r)) t
      ∙ ap (λ (rs : List Row). take f rows ++ rs) d
      ∙ sym (set-append_right (take f rows) (drop b rows) f (n - 1) r (length-take-le f rows (omega arith)) (omega arith)))
      (λ (le : n ≤ f).
      ap (λ (k : ℕ). held (slice_set rows k r) f b) (i_front le)
      ∙ same_lists _ _ (search (rules, places)) (λ k d g. grind (arith, places, get_or-set_same, cases_eq k (n - 1))))
      (cases_lt f n)

  pub set_lines : (gap_meaning (slice_set rows i r) f b bytes p q).lines
      ≡ slice_set (gap_meaning rows f b bytes p q).lines (n - 1) (record { text = (line_at (gap_meaning rows f b bytes p q) n).text; tag = r.tag })
  set_lines =
      let here : get_or (held rows f b) (n - 1) r ≡ get_or rows i no_row = grind (arith, places, nat_tests) in
      ap (cut (held bytes p q)) set_held
      ∙ cut-set (held bytes p q) (held rows f b) (n - 1) r (len ∙ ap (λ (x : Row). x.len) (sym here))
