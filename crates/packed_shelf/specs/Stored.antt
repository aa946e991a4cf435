-- How the files follow from rows and bytes: what leaves a file as it was, and where a file is found.
use Rattle.std.specs.Prelude.{◌≡◌, ℕ, ◌+◌, ◌≤◌, Bool, true, false, cond, List, [], ◌∷◌, ◌++◌, length, take, drop, ◌==◌, nat_eq, refl}
use Rattle.std.proofs.Common.{sym, ap, ◌∙◌, ⊎_elim, arith}
use Rattle.std.proofs.lemmas.List.{length-drop, take-append-le, drop-append-le, drop-drop, drop_at, nil_from_length}
use Rattle.std.proofs.lemmas.List.Sums.{sum_by-cons}
use Rattle.std.proofs.lemmas.Bool.{cases_Bool}
use Rattle.shelf.specs.Shelf.{File}
use Rattle.shelf.specs.Text.{text_of}
use Rattle.packed_shelf.specs.declared.row.Row.{Row}
use Rattle.packed_shelf.specs.Packed.{file_of}
use Rattle.packed_shelf.specs.Rows.{total, bearing}

pub total-cons : (x : Row) (xs : List Row) → total (x ∷ xs) ≡ x.size + total xs
total-cons x xs = sum_by-cons (λ r. r.size) x xs

pub bearing-cons : (k : ℕ) (x : Row) (xs : List Row) → bearing k (x ∷ xs) ≡ cond (x.number == k) 1 0 + bearing k xs
bearing-cons k x xs = sum_by-cons (λ r. cond (r.number == k) 1 0) x xs

pub bearing_here : (k : ℕ) (x : Row) (xs : List Row) → (x.number == k) ≡ true → bearing k (x ∷ xs) ≡ 1 + bearing k xs
bearing_here k x xs e = bearing-cons k x xs ∙ ap (λ (b : Bool). cond b 1 0 + bearing k xs) e

pub bearing-past : (k : ℕ) (x : Row) (xs : List Row) → (x.number == k) ≡ false → bearing k (x ∷ xs) ≡ 0 + bearing k xs
bearing-past k x xs e = bearing-cons k x xs ∙ ap (λ (b : Bool). cond b 1 0 + bearing k xs) e

abbrev pub stored : Row → List ℕ → File
stored r bytes = record { name = text_of r.name; contents = take r.size bytes }

-- the first row decides
pub here : (x : Row) (xs : List Row) (bytes : List ℕ) (k : ℕ) → (x.number == k) ≡ true → file_of (x ∷ xs) bytes k ≡ stored x bytes
here x xs bytes k e = ap (λ (b : Bool). cond b (stored x bytes) (file_of xs (drop x.size bytes) k)) e

pub past : (x : Row) (xs : List Row) (bytes : List ℕ) (k : ℕ) → (x.number == k) ≡ false → file_of (x ∷ xs) bytes k ≡ file_of xs (drop x.size bytes) k
past x xs bytes k e = ap (λ (b : Bool). cond b (stored x bytes) (file_of xs (drop x.size bytes) k)) e

-- bytes behind those of the rows are not looked at
pub own_bytes : (xs : List Row) (fs bs : List ℕ) (k : ℕ) → total xs ≤ length fs → file_of xs (fs ++ bs) k ≡ file_of xs fs k
own_bytes [] fs bs k le = refl
own_bytes (x ∷ xs) fs bs k le =
    let t = total-cons x xs in
    let n : x.size ≤ length fs = omega arith in
    ⊎_elim
    (λ (e : nat_eq x.number k ≡ true).
    here x xs (fs ++ bs) k e ∙ (ap (λ (cs : List ℕ). record { name = text_of x.name; contents = cs }) (take-append-le x.size fs bs n) ∙ sym (here x xs fs k e)))
    (λ (e : nat_eq x.number k ≡ false).
    let l = length-drop x.size fs in
    past x xs (fs ++ bs) k e ∙ (ap (λ (cs : List ℕ). file_of xs cs k) (drop-append-le x.size fs bs n) ∙ (own_bytes xs (drop x.size fs) bs k (omega arith) ∙ sym (past x xs fs k e))))
    (cases_Bool (x.number == k))

-- a row of another number, taken out with its bytes
pub without-row : (xs ys : List Row) (r : Row) (fs cs rest : List ℕ) (k : ℕ) → (r.number == k) ≡ false → length fs ≡ total xs → length cs ≡ r.size
    → file_of (xs ++ r ∷ ys) (fs ++ (cs ++ rest)) k ≡ file_of (xs ++ ys) (fs ++ rest) k
without-row [] ys r fs cs rest k ne la lc =
    let none : fs ≡ [] = nil_from_length fs la in
    rw none (past r ys (cs ++ rest) k ne ∙ ap (λ (bs : List ℕ). file_of ys bs k) (drop_at cs rest r.size lc))
without-row (x ∷ xs) ys r fs cs rest k ne la lc =
    let t = total-cons x xs in
    let n : x.size ≤ length fs = omega arith in
    ⊎_elim
    (λ (e : nat_eq x.number k ≡ true).
    here x (xs ++ r ∷ ys) (fs ++ (cs ++ rest)) k e
    ∙ (ap (λ (bs : List ℕ). record { name = text_of x.name; contents = bs }) (take-append-le x.size fs (cs ++ rest) n ∙ sym (take-append-le x.size fs rest n))
    ∙ sym (here x (xs ++ ys) (fs ++ rest) k e)))
    (λ (e : nat_eq x.number k ≡ false).
    let l = length-drop x.size fs in
    past x (xs ++ r ∷ ys) (fs ++ (cs ++ rest)) k e
    ∙ (ap (λ (bs : List ℕ). file_of (xs ++ r ∷ ys) bs k) (drop-append-le x.size fs (cs ++ rest) n)
    ∙ (without-row xs ys r (drop x.size fs) cs rest k ne (omega arith) lc
    ∙ (ap (λ (bs : List ℕ). file_of (xs ++ ys) bs k) (sym (drop-append-le x.size fs rest n))
    ∙ sym (past x (xs ++ ys) (fs ++ rest) k e)))))
    (cases_Bool (x.number == k))

-- a last row of another number
pub without_last : (xs : List Row) (r : Row) (bytes : List ℕ) (k : ℕ) → (r.number == k) ≡ false → file_of (xs ++ r ∷ []) bytes k ≡ file_of xs bytes k
without_last [] r bytes k ne = past r [] bytes k ne
without_last (x ∷ xs) r bytes k ne =
    ⊎_elim
    (λ (e : nat_eq x.number k ≡ true). here x (xs ++ r ∷ []) bytes k e ∙ sym (here x xs bytes k e))
    (λ (e : nat_eq x.number k ≡ false). past x (xs ++ r ∷ []) bytes k e ∙ (without_last xs r (drop x.size bytes) k ne ∙ sym (past x xs bytes k e)))
    (cases_Bool (x.number == k))

-- the row of number k behind rows of other numbers
pub found_behind : (xs ys : List Row) (r : Row) (bytes : List ℕ) (k : ℕ) → bearing k xs ≡ 0 → (r.number == k) ≡ true
    → file_of (xs ++ r ∷ ys) bytes k ≡ stored r (drop (total xs) bytes)
found_behind [] ys r bytes k none e = here r ys bytes k e
found_behind (x ∷ xs) ys r bytes k none e =
    let t = total-cons x xs in
    ⊎_elim
    (λ (f : nat_eq x.number k ≡ true). absurd (omega (arith, bearing_here k x xs f)))
    (λ (f : nat_eq x.number k ≡ false).
    let b = bearing-past k x xs f in
    past x (xs ++ r ∷ ys) bytes k f
    ∙ (found_behind xs ys r (drop x.size bytes) k (omega arith) e
    ∙ ap (λ (bs : List ℕ). stored r bs) (drop-drop (total xs) x.size bytes ∙ ap (λ (n : ℕ). drop n bytes) (sym t))))
    (cases_Bool (x.number == k))
