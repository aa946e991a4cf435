-- What looking up a name says of the files, and the other way round.
use Rattle.std.proofs.Common.{◌≡◌, ℕ, zero, suc, ◌+◌, ◌<◌, Bool, true, false, cond, List, [], ◌∷◌, length, Some, None, Option, sym, refl, ap, ◌∙◌, subst, ⊎_elim, arith}
use Rattle.std.specs.Str.{bytes_eq}
use Rattle.std.proofs.lemmas.Slice.Eq.{bytes_eq-Decides}
use Rattle.std.proofs.lemmas.Bool.{cases_Bool, false_from_ne_true}
use Rattle.shelf.specs.Shelf.{File, Shelf, Apart, name_at, lookup_from, lookup_answer}

pub same_name : (m n : List ℕ) → m ≡ n → bytes_eq m n ≡ true
same_name m n e = (bytes_eq-Decides m n).1 e

pub other_name : (m n : List ℕ) → (m ≡ n → ⊥) → bytes_eq m n ≡ false
other_name m n ne = false_from_ne_true (bytes_eq m n) (λ e. ne ((bytes_eq-Decides m n).0 e))

-- file i is the first that has the name
abbrev pub First : List File → List ℕ → ℕ → Type 0
First fs n i = (i < length fs) × (name_at fs i ≡ n) × ((j : ℕ) → j < i → bytes_eq (name_at fs j) n ≡ false)

abbrev pub Missing : List File → List ℕ → Type 0
Missing fs n = (j : ℕ) → j < length fs → bytes_eq (name_at fs j) n ≡ false

at_head : (a : ℕ) (f : File) (fs : List File) (n : List ℕ) → bytes_eq f.name n ≡ true → lookup_from a (f ∷ fs) n ≡ Some a
at_head a f fs n e = ap (λ (b : Bool). cond b (Some a) (lookup_from (a + 1) fs n)) e

past_head : (a : ℕ) (f : File) (fs : List File) (n : List ℕ) → bytes_eq f.name n ≡ false → lookup_from a (f ∷ fs) n ≡ lookup_from (a + 1) fs n
past_head a f fs n e = ap (λ (b : Bool). cond b (Some a) (lookup_from (a + 1) fs n)) e

first-from : (a : ℕ) (fs : List File) (n : List ℕ) (i : ℕ) → First fs n i → lookup_from a fs n ≡ Some (a + i)
first-from a [] n i h = absurd (omega (arith, h.0))
first-from a (f ∷ fs) n zero h = at_head a f fs n (same_name f.name n h.1) ∙ ap Some (omega arith)
first-from a (f ∷ fs) n (suc i) h =
    past_head a f fs n (h.2 zero (omega arith))
    ∙ (first-from (a + 1) fs n i (omega (arith, h.0), h.1, λ j lt. h.2 (suc j) (omega arith)) ∙ ap Some (omega arith))

missing_from : (a : ℕ) (fs : List File) (n : List ℕ) → Missing fs n → lookup_from a fs n ≡ None
missing_from a [] n h = refl
missing_from a (f ∷ fs) n h =
    past_head a f fs n (h zero (omega arith)) ∙ missing_from (a + 1) fs n (λ j lt. h (suc j) (omega arith))

pub lookup_first : (s : Shelf) (n : List ℕ) (i : ℕ) → Apart s.files → i < length s.files → name_at s.files i ≡ n → lookup_answer s n ≡ Some i
lookup_first s n i apart lt e =
    first-from 0 s.files n i (lt, e, λ j h. subst (λ (m : List ℕ). bytes_eq (name_at s.files j) m ≡ false) e (apart j i (h, lt)))
    ∙ ap Some (omega arith)

pub lookup_missing : (s : Shelf) (n : List ℕ) → Missing s.files n → lookup_answer s n ≡ None
lookup_missing s n h = missing_from 0 s.files n h

-- what an answer says: the number of a file of that name, or that there is none
abbrev pub Told : ℕ → List File → List ℕ → Option ℕ → Type 0
Told a fs n None = Missing fs n
Told a fs n (Some k) = (i : ℕ) × (k ≡ a + i) × (i < length fs) × (name_at fs i ≡ n)

missing_later : (f : File) (fs : List File) (n : List ℕ) → bytes_eq f.name n ≡ false → Missing fs n → Missing (f ∷ fs) n
missing_later f fs n ne h zero lt = ne
missing_later f fs n ne h (suc j) lt = h j (omega arith)

told_later : (a : ℕ) (f : File) (fs : List File) (n : List ℕ) (o : Option ℕ) → bytes_eq f.name n ≡ false → Told (a + 1) fs n o → Told a (f ∷ fs) n o
told_later a f fs n None ne h = missing_later f fs n ne h
told_later a f fs n (Some k) ne (i, e, lt, m) = (suc i, omega arith, omega arith, m)

told_from : (a : ℕ) (fs : List File) (n : List ℕ) → Told a fs n (lookup_from a fs n)
told_from a [] n = λ j lt. absurd (omega arith)
told_from a (f ∷ fs) n =
    ⊎_elim
    (λ (e : bytes_eq f.name n ≡ true).
    let t : Told a (f ∷ fs) n (Some a) = (zero, omega arith, omega arith, (bytes_eq-Decides f.name n).0 e) in
    subst (λ (o : Option ℕ). Told a (f ∷ fs) n o) (sym (at_head a f fs n e)) t)
    (λ (e : bytes_eq f.name n ≡ false).
    subst (λ (o : Option ℕ). Told a (f ∷ fs) n o) (sym (past_head a f fs n e)) (told_later a f fs n (lookup_from (a + 1) fs n) e (told_from (a + 1) fs n)))
    (cases_Bool (bytes_eq f.name n))

pub found_name : (s : Shelf) (n : List ℕ) (k : ℕ) → lookup_answer s n ≡ Some k → (k < length s.files) × (name_at s.files k ≡ n)
found_name s n k e = from (subst (λ (o : Option ℕ). Told 0 s.files n o) e (told_from 0 s.files n))
  where
    from : Told 0 s.files n (Some k) → (k < length s.files) × (name_at s.files k ≡ n)
    from (i, q, lt, m) = (omega arith, ap (λ (j : ℕ). name_at s.files j) (let z : k ≡ i = omega arith in z) ∙ m)

pub none_named : (s : Shelf) (n : List ℕ) → lookup_answer s n ≡ None → Missing s.files n
none_named s n e = subst (λ (o : Option ℕ). Told 0 s.files n o) e (told_from 0 s.files n)
