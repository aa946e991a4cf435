-- The files hold as many bytes as their rows say: the sum over numbers is the sum over rows.
use Rattle.std.specs.Prelude.{◌≡◌, ℕ, zero, suc, ◌+◌, ◌<◌, ◌≤◌, true, false, cond, List, [], ◌∷◌, map, length, drop, sum_by, ◌==◌, nat_eq, nat_lt, refl}
use Rattle.std.proofs.Common.{sym, ap, ◌∙◌, ⊎_elim, add-one, arith}
use Rattle.std.specs.List.{range_with_len}
use Rattle.std.proofs.lemmas.List.FromFn.{sum_by-map-range_with_len_more}
use Rattle.std.proofs.lemmas.List.{length-drop, length-take-le}
use Rattle.std.proofs.lemmas.List.Sums.{sum_by-cons}
use Rattle.std.proofs.lemmas.Bool.{cases_Bool, cases_lt, lt-ltb, le-ltb, cond-true, cond-false, eq-eqb}
use Rattle.std.proofs.lemmas.Bool.Decides.{nat_tests}
use Rattle.shelf.specs.Shelf.{File, held}
use Rattle.packed_shelf.specs.declared.row.Row.{Row}
use Rattle.packed_shelf.specs.Packed.{file_of, files_of}
use Rattle.packed_shelf.specs.Rows.{total, bearing, Numbered}
use Rattle.packed_shelf.specs.Stored.{total-cons, bearing_here, bearing-past, bearing-cons, here, past}

-- the bytes of the rows with number k, with a number below n, with each number below n in turn
abbrev weight : ℕ → List Row → ℕ
weight k rows = sum_by (λ r. cond (r.number == k) r.size 0) rows

abbrev below : ℕ → List Row → ℕ
below n rows = sum_by (λ r. cond (nat_lt r.number n) r.size 0) rows

abbrev weights : ℕ → List Row → ℕ
weights zero rows = 0
weights (suc n) rows = weights n rows + weight n rows

weight-cons : (k : ℕ) (x : Row) (xs : List Row) → weight k (x ∷ xs) ≡ cond (x.number == k) x.size 0 + weight k xs
weight-cons k x xs = sum_by-cons (λ r. cond (r.number == k) r.size 0) x xs

below-cons : (n : ℕ) (x : Row) (xs : List Row) → below n (x ∷ xs) ≡ cond (nat_lt x.number n) x.size 0 + below n xs
below-cons n x xs = sum_by-cons (λ r. cond (nat_lt r.number n) r.size 0) x xs

weight_none : (k : ℕ) (xs : List Row) → bearing k xs ≡ 0 → weight k xs ≡ 0
weight_none k [] h = refl
weight_none k (x ∷ xs) h =
    let w = weight-cons k x xs in
    ⊎_elim
    (λ (e : nat_eq x.number k ≡ true). absurd (omega (arith, bearing_here k x xs e)))
    (λ (e : nat_eq x.number k ≡ false).
    let b = bearing-past k x xs e in
    let c : cond (x.number == k) x.size 0 ≡ 0 = cond-false (x.number == k) x.size 0 e in
    let i = weight_none k xs (omega arith) in
    omega arith)
    (cases_Bool (x.number == k))

size-weight : (rows : List Row) (bytes : List ℕ) (k : ℕ) → total rows ≤ length bytes → bearing k rows ≤ 1 → length (file_of rows bytes k).contents ≡ weight k rows
size-weight [] bytes k fits one = refl
size-weight (x ∷ xs) bytes k fits one =
    let w = weight-cons k x xs in
    let t = total-cons x xs in
    ⊎_elim
    (λ (e : nat_eq x.number k ≡ true).
    let b = bearing_here k x xs e in
    let c : cond (x.number == k) x.size 0 ≡ x.size = cond-true (x.number == k) x.size 0 e in
    let z = weight_none k xs (omega arith) in
    ap (λ (f : File). length f.contents) (here x xs bytes k e) ∙ (length-take-le x.size bytes (omega arith) ∙ omega arith))
    (λ (e : nat_eq x.number k ≡ false).
    let b = bearing-past k x xs e in
    let c : cond (x.number == k) x.size 0 ≡ 0 = cond-false (x.number == k) x.size 0 e in
    let l = length-drop x.size bytes in
    ap (λ (f : File). length f.contents) (past x xs bytes k e) ∙ (size-weight xs (drop x.size bytes) k (omega arith) (omega arith) ∙ omega arith))
    (cases_Bool (x.number == k))

one_more : (m n s : ℕ) → cond (nat_lt m (suc n)) s 0 ≡ cond (nat_lt m n) s 0 + cond (m == n) s 0
one_more m n s = grind (arith, nat_tests)

below_more : (n : ℕ) (xs : List Row) → below (suc n) xs ≡ below n xs + weight n xs
below_more n [] = refl
below_more n (x ∷ xs) =
    let p = below-cons (suc n) x xs in
    let q = below-cons n x xs in
    let w = weight-cons n x xs in
    let o = one_more x.number n x.size in
    let i = below_more n xs in
    omega arith

below_none : (xs : List Row) → below 0 xs ≡ 0
below_none [] = refl
below_none (x ∷ xs) =
    let q = below-cons 0 x xs in
    let c : cond (nat_lt x.number 0) x.size 0 ≡ 0 = cond-false (nat_lt x.number 0) x.size 0 (le-ltb x.number 0 (omega arith)) in
    let i = below_none xs in
    omega arith

weights-below : (n : ℕ) (xs : List Row) → weights n xs ≡ below n xs
weights-below zero xs = sym (below_none xs)
weights-below (suc n) xs = let i = weights-below n xs in let m = below_more n xs in omega arith

below_all : (n : ℕ) (xs : List Row) → ((k : ℕ) → n ≤ k → bearing k xs ≡ 0) → below n xs ≡ total xs
below_all n [] none = refl
below_all n (x ∷ xs) none =
    let q = below-cons n x xs in
    let t = total-cons x xs in
    let m = x.number in
    ⊎_elim
    (λ (lt : m < n).
    let c : cond (nat_lt m n) x.size 0 ≡ x.size = cond-true (nat_lt m n) x.size 0 (lt-ltb m n lt) in
    let i = below_all n xs (λ k h. let b = bearing-cons k x xs in let z = none k h in omega arith) in
    omega arith)
    (λ (le : n ≤ m). absurd (let b = bearing_here m x xs (eq-eqb m m refl) in let z = none m le in omega arith))
    (cases_lt m n)

held_upto : (rows : List Row) (f : ℕ → File) (n : ℕ) → ((k : ℕ) → length (f k).contents ≡ weight k rows)
    → held (map f (range_with_len 0 n)) ≡ weights n rows
held_upto rows f zero each = refl
held_upto rows f (suc n) each =
    let m : held (map f (range_with_len 0 (n + 1))) ≡ held (map f (range_with_len 0 n)) + length (f n).contents =
    sum_by-map-range_with_len_more (λ (g : File). length g.contents) f 0 n n (omega arith) in
    let i = held_upto rows f n each in
    let e = each n in
    rw add-one at m ∙ omega arith

pub held-total : (rows : List Row) (bytes : List ℕ) → Numbered rows → total rows ≤ length bytes → held (files_of rows bytes) ≡ total rows
held-total rows bytes num fits =
    let n = length rows in
    held_upto rows (file_of rows bytes) n (λ k. size-weight rows bytes k fits (let b = num k in grind (arith, nat_tests)))
    ∙ (weights-below n rows ∙ below_all n rows (λ k h. num k ∙ cond-false (nat_lt k n) 1 0 (le-ltb k n h)))
