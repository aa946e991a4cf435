-- Rows that lie back to back: their totals, cuts of them, and where each lies.
use Rattle.std.specs.Prelude.{◌≡◌, ℕ, zero, suc, ◌+◌, ◌*◌, ◌<◌, ◌≤◌, Bool, true, ◌&&◌, List, [], ◌∷◌, ◌++◌, length, get_or, take, drop, set, ◌==◌, nat_le, slice_index_or, slice_set, refl}
use Rattle.std.proofs.Common.{sym, ap, ◌∙◌, subst, arith, zero-add, add_assoc}
use Rattle.std.proofs.lemmas.List.{append_assoc, drop-drop, drop_more, take_more, take-append-drop, take-append-le, drop-append-le, length-drop, length-take-le, get_or_at, set_at}
use Rattle.std.proofs.lemmas.Bool.{eqb-true, leb-true, and_parts, and_from, eq-eqb, le-leb}
use Rattle.lines.specs.Line.{Line, blank}
use Rattle.gap_store.specs.declared.row.Row.{Row}
use Rattle.gap_store.specs.Rows.{no_row, total, cut, laid, relaid}

pub total-append : (xs ys : List Row) → total (xs ++ ys) ≡ total xs + total ys
total-append [] ys = sym (zero-add (total ys))
total-append (x ∷ xs) ys = ap (λ (n : ℕ). x.len + n) (total-append xs ys) ∙ sym (add_assoc x.len (total xs) (total ys))

pub length_cut : (bytes : List ℕ) (rs : List Row) → length (cut bytes rs) ≡ length rs
length_cut bytes [] = refl
length_cut bytes (r ∷ rs) = ap suc (length_cut (drop r.len bytes) rs)

-- a cut of two parts, where the bytes of the first are the first rows' own
pub cut-append : (xs ys : List ℕ) (rs ss : List Row) → length xs ≡ total rs → cut (xs ++ ys) (rs ++ ss) ≡ cut xs rs ++ cut ys ss
cut-append [] ys [] ss e = refl
cut-append (x ∷ xs) ys [] ss e = absurd (omega arith)
cut-append xs ys (r ∷ rs) ss e =
    let le : r.len ≤ length xs = omega arith in
    let t : take r.len (xs ++ ys) ≡ take r.len xs = take-append-le r.len xs ys le in
    let d : drop r.len (xs ++ ys) ≡ drop r.len xs ++ ys = drop-append-le r.len xs ys le in
    let n : length (drop r.len xs) ≡ total rs = length-drop r.len xs ∙ omega arith in
    ap (λ (z : List ℕ). record { text = z; tag = r.tag } ∷ cut (drop r.len (xs ++ ys)) (rs ++ ss)) t
    ∙ ap (λ (z : List ℕ). record { text = take r.len xs; tag = r.tag } ∷ cut z (rs ++ ss)) d
    ∙ ap (λ (z : List Line). record { text = take r.len xs; tag = r.tag } ∷ z) (cut-append (drop r.len xs) ys rs ss n)

-- the line at k: its bytes stand behind those of the rows in front
pub cut_at : (bytes : List ℕ) (rs : List Row) (k : ℕ) (d : Row) → k < length rs
    → slice_index_or (cut bytes rs) k blank ≡ record { text = take (get_or rs k d).len (drop (total (take k rs)) bytes); tag = (get_or rs k d).tag }
cut_at bytes [] k d h = absurd (omega arith)
cut_at bytes (r ∷ rs) zero d h = refl
cut_at bytes (r ∷ rs) (suc k) d h =
    cut_at (drop r.len bytes) rs k d (omega arith)
    ∙ ap (λ (z : List ℕ). record { text = take (get_or rs k d).len z; tag = (get_or rs k d).tag }) (drop-drop (total (take k rs)) r.len bytes)

-- the first row of rows that lie back to back, and the rest
module _ (from to : ℕ) (r : Row) (rs : List Row) (h : laid from (r ∷ rs) to ≡ true) where
  first : r.start ≡ from
  first = eqb-true _ _ (and_parts _ _ h).0

  short : r.len ≤ 255
  short = leb-true _ _ (and_parts _ _ (and_parts _ _ h).1).0

  rest : laid (from + r.len) rs to ≡ true
  rest = (and_parts (nat_le r.len 255) _ (and_parts (r.start == from) _ h).1).1

laid_from : (from to : ℕ) (r : Row) (rs : List Row) → r.start ≡ from → r.len ≤ 255 → laid (from + r.len) rs to ≡ true → laid from (r ∷ rs) to ≡ true
laid_from from to r rs e l h = and_from _ _ (eq-eqb _ _ e) (and_from _ _ (le-leb _ _ l) h)

pub laid-total : (from : ℕ) (rs : List Row) (to : ℕ) → laid from rs to ≡ true → to ≡ from + total rs
laid-total from [] to h = let e = eqb-true from to h in omega arith
laid-total from (r ∷ rs) to h = let e = laid-total (from + r.len) rs to (rest from to r rs h) in omega arith

pub laid_bound : (from : ℕ) (rs : List Row) (to : ℕ) → laid from rs to ≡ true → to ≤ from + 255 * length rs
laid_bound from [] to h = let e = eqb-true from to h in omega arith
laid_bound from (r ∷ rs) to h =
    let e = laid_bound (from + r.len) rs to (rest from to r rs h) in
    let s = short from to r rs h in
    omega arith

pub laid_join : (from : ℕ) (rs ss : List Row) (mid to : ℕ) → laid from rs mid ≡ true → laid mid ss to ≡ true → laid from (rs ++ ss) to ≡ true
laid_join from [] ss mid to h g = subst (λ (n : ℕ). laid n ss to ≡ true) (sym (eqb-true from mid h)) g
laid_join from (r ∷ rs) ss mid to h g =
    laid_from from to r (rs ++ ss) (first from mid r rs h) (short from mid r rs h) (laid_join (from + r.len) rs ss mid to (rest from mid r rs h) g)

pub laid_front : (from : ℕ) (rs ss : List Row) (to : ℕ) → laid from (rs ++ ss) to ≡ true → laid from rs (from + total rs) ≡ true
laid_front from [] ss to h = eq-eqb _ _ (omega arith)
laid_front from (r ∷ rs) ss to h =
    let q = laid_front (from + r.len) rs ss to (rest from to r (rs ++ ss) h) in
    laid_from from (from + total (r ∷ rs)) r rs (first from to r (rs ++ ss) h) (short from to r (rs ++ ss) h)
    (subst (λ (n : ℕ). laid (from + r.len) rs n ≡ true) (omega arith) q)

pub laid_back : (from : ℕ) (rs ss : List Row) (to : ℕ) → laid from (rs ++ ss) to ≡ true → laid (from + total rs) ss to ≡ true
laid_back from [] ss to h = subst (λ (n : ℕ). laid n ss to ≡ true) (omega arith) h
laid_back from (r ∷ rs) ss to h =
    let q = laid_back (from + r.len) rs ss to (rest from to r (rs ++ ss) h) in
    subst (λ (n : ℕ). laid n ss to ≡ true) (omega arith) q

pub laid_one : (r : Row) (from : ℕ) → r.start ≡ from → r.len ≤ 255 → laid from (r ∷ []) (from + r.len) ≡ true
laid_one r from e l = laid_from from (from + r.len) r [] e l (eq-eqb _ _ refl)

-- a row with another tag lies where it lay
pub laid-set : (from : ℕ) (rs : List Row) (to k : ℕ) (r : Row) → r.start ≡ (get_or rs k r).start → r.len ≡ (get_or rs k r).len → laid from (slice_set rs k r) to ≡ laid from rs to
laid-set from [] to k r s l = refl
laid-set from (x ∷ rs) to zero r s l =
    ap (λ (n : ℕ). (n == from) && (nat_le r.len 255 && laid (from + r.len) rs to)) s ∙ ap (λ (n : ℕ). (x.start == from) && (nat_le n 255 && laid (from + n) rs to)) l
laid-set from (x ∷ rs) to (suc k) r s l =
    ap (λ (b : Bool). (x.start == from) && (nat_le x.len 255 && b)) (laid-set (from + x.len) rs to k r s l)

-- where the row at k lies
pub laid_at : (from : ℕ) (rs : List Row) (to k : ℕ) (d : Row) → laid from rs to ≡ true → k < length rs
    → ((get_or rs k d).start ≡ from + total (take k rs)) × ((get_or rs k d).start + (get_or rs k d).len ≤ to) × ((get_or rs k d).len ≤ 255)
laid_at from [] to k d h lt = absurd (omega arith)
laid_at from (r ∷ rs) to zero d h lt =
    let f = first from to r rs h in
    let t = laid-total from (r ∷ rs) to h in
    (omega arith, omega arith, short from to r rs h)
laid_at from (r ∷ rs) to (suc k) d h lt =
    let q = laid_at (from + r.len) rs to k d (rest from to r rs h) (omega arith) in
    (omega (arith, q.0), q.1, q.2)

-- rows that are laid anew
pub length-relaid : (from : ℕ) (rs : List Row) → length (relaid from rs) ≡ length rs
length-relaid from [] = refl
length-relaid from (r ∷ rs) = ap suc (length-relaid (from + r.len) rs)

pub total-relaid : (from : ℕ) (rs : List Row) → total (relaid from rs) ≡ total rs
total-relaid from [] = refl
total-relaid from (r ∷ rs) = ap (λ (n : ℕ). r.len + n) (total-relaid (from + r.len) rs)

cut-relaid_front : (bytes : List ℕ) (from : ℕ) (rs ss : List Row) → cut bytes (relaid from rs ++ ss) ≡ cut bytes (rs ++ ss)
cut-relaid_front bytes from [] ss = refl
cut-relaid_front bytes from (r ∷ rs) ss =
    ap (λ (ls : List Line). record { text = take r.len bytes; tag = r.tag } ∷ ls) (cut-relaid_front (drop r.len bytes) (from + r.len) rs ss)

pub cut-relaid : (bytes : List ℕ) (from : ℕ) (qs rs ss : List Row) → cut bytes (qs ++ (relaid from rs ++ ss)) ≡ cut bytes (qs ++ (rs ++ ss))
cut-relaid bytes from [] rs ss = cut-relaid_front bytes from rs ss
cut-relaid bytes from (q ∷ qs) rs ss =
    ap (λ (ls : List Line). record { text = take q.len bytes; tag = q.tag } ∷ ls) (cut-relaid (drop q.len bytes) from qs rs ss)

pub laid-relaid : (was : ℕ) (rs : List Row) (to from : ℕ) → laid was rs to ≡ true → laid from (relaid from rs) (from + total rs) ≡ true
laid-relaid was [] to from h = eq-eqb _ _ (omega arith)
laid-relaid was (r ∷ rs) to from h =
    let q = laid-relaid (was + r.len) rs to (from + r.len) (rest was to r rs h) in
    laid_from from (from + total (r ∷ rs)) (record { start = from; len = r.len; tag = r.tag }) (relaid (from + r.len) rs) refl (short was to r rs h)
    (subst (λ (n : ℕ). laid (from + r.len) (relaid (from + r.len) rs) n ≡ true) (omega arith) q)

pub relaid_push : (from : ℕ) (rs : List Row) (r : Row) → relaid from rs ++ record { start = from + total rs; len = r.len; tag = r.tag } ∷ [] ≡ relaid from (rs ++ r ∷ [])
relaid_push from [] r = ap (λ (n : ℕ). record { start = n; len = r.len; tag = r.tag } ∷ []) (omega arith)
relaid_push from (x ∷ rs) r =
    let e : from + (x.len + total rs) ≡ from + x.len + total rs = omega arith in
    ap (λ (n : ℕ). record { start = from; len = x.len; tag = x.tag } ∷ (relaid (from + x.len) rs ++ record { start = n; len = r.len; tag = r.tag } ∷ [])) e
    ∙ ap (λ (xs : List Row). record { start = from; len = x.len; tag = x.tag } ∷ xs) (relaid_push (from + x.len) rs r)

-- a loop that lays rows anew: k of them have been laid
module _ (from : ℕ) (rs : List Row) where
  abbrev part : ℕ → List Row
  part k = relaid from (take k rs) ++ drop k rs

  pub total_more : (k : ℕ) → k < length rs → total (take (k + 1) rs) ≡ total (take k rs) + (get_or rs k no_row).len
  total_more k lt = ap total (take_more rs k no_row lt) ∙ total-append (take k rs) (slice_index_or rs k no_row ∷ []) ∙ omega arith

  pub total-within : (k : ℕ) → total (take k rs) ≤ total rs
  total-within k = let e = sym (total-append (take k rs) (drop k rs)) ∙ ap total (take-append-drop k rs) in omega arith

  length_part : (k : ℕ) → k < length rs → length (relaid from (take k rs)) ≡ k
  length_part k lt = length-relaid from (take k rs) ∙ length-take-le k rs (omega arith)

  pub part-read : (k : ℕ) → k < length rs → slice_index_or (part k) k no_row ≡ slice_index_or rs k no_row
  part-read k lt =
      ap (λ (z : List Row). get_or (relaid from (take k rs) ++ z) k no_row) (drop_more rs k no_row lt)
      ∙ get_or_at (relaid from (take k rs)) (slice_index_or rs k no_row) (drop (k + 1) rs) no_row k (length_part k lt)

  pub part_more : (k : ℕ) → k < length rs
      → slice_set (part k) k (record { start = from + total (take k rs); len = (get_or rs k no_row).len; tag = (get_or rs k no_row).tag }) ≡ part (k + 1)
  part_more k lt =
      let r : Row = record { start = from + total (take k rs); len = (get_or rs k no_row).len; tag = (get_or rs k no_row).tag } in
      ap (λ (z : List Row). set (relaid from (take k rs) ++ z) k r) (drop_more rs k no_row lt)
      ∙ set_at (relaid from (take k rs)) (slice_index_or rs k no_row) (drop (k + 1) rs) r k (length_part k lt)
      ∙ sym (append_assoc (relaid from (take k rs)) (r ∷ []) (drop (k + 1) rs))
      ∙ ap (λ (z : List Row). z ++ drop (k + 1) rs) (relaid_push from (take k rs) (slice_index_or rs k no_row))
      ∙ ap (λ (z : List Row). relaid from z ++ drop (k + 1) rs) (sym (take_more rs k no_row lt))
