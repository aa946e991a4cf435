-- Sums over a list, and what `placed` does to them: where no line stays twice, no sum grows to which created lines add nothing.
use Rattle.std.proofs.Common.{◌≡◌, ℕ, zero, suc, ◌+◌, ◌*◌, ◌<◌, ◌≤◌, Bool, true, false, not, ◌&&◌, eqb, ◌⊎◌, List, [], ◌∷◌, ◌++◌, map, take, drop, refl, ap, inl, inr, suc-mul, one-mul, zero-add, zero-mul, one-add, arith}
use lib.Dec.{eqb-suc-suc, eqb-suc-zero, eqb-zero-suc}
use lib.Seq.{drop-nil}
use Rattle.std.proofs.lemmas.Bool.{cases_eq, eq-eqb, ne_eqb}
use Rattle.rules.specs.Globals.{one_if, sum_of}
use Rattle.rules.specs.Lines.{picked}
use Rattle.rules.specs.Pieces.{Piece, old, new, placed}

-- tests as counts

pub one-and_true : (b : Bool) → one_if (b && true) ≡ one_if b
one-and_true true = refl
one-and_true false = refl

pub one-and_false : (b : Bool) → one_if (b && false) ≡ 0
one-and_false true = refl
one-and_false false = refl

pub one-and_le : (a b : Bool) → one_if (a && b) ≤ one_if b
one-and_le true b = omega arith
one-and_le false b = omega arith

pub one_split : (a b : Bool) → one_if a ≡ one_if (a && b) + one_if (a && not b)
one_split true true = refl
one_split true false = refl
one_split false b = refl

-- sums over any list

module _ {L : Type 0} (f : L → ℕ) where
  pub sum-append : (xs ys : List L) → sum_of f (xs ++ ys) ≡ sum_of f xs + sum_of f ys
  sum-append [] ys = omega arith
  sum-append (x ∷ xs) ys = omega (arith, sum-append xs ys)

  pub sum-drop_le : (n : ℕ) (xs : List L) → sum_of f (drop n xs) ≤ sum_of f xs
  sum-drop_le zero xs = omega arith
  sum-drop_le (suc n) [] = omega arith
  sum-drop_le (suc n) (x ∷ xs) = omega (arith, sum-drop_le n xs)

  pub sum_first_le : (xs : List L) → sum_of f (take 1 xs) ≤ sum_of f xs
  sum_first_le [] = omega arith
  sum_first_le (x ∷ xs) = omega arith

  pub sum-picked_le : (n : ℕ) (xs : List L) → sum_of f (picked xs n) ≤ sum_of f xs
  sum-picked_le zero xs = omega arith
  sum-picked_le (suc n) xs = omega (arith, sum-drop_le n xs, sum_first_le (drop n xs))

module _ {L : Type 0} where
  pub sum_le : (f g : L → ℕ) → ((x : L) → f x ≤ g x) → (xs : List L) → sum_of f xs ≤ sum_of g xs
  sum_le f g h [] = omega arith
  sum_le f g h (x ∷ xs) = omega (arith, h x, sum_le f g h xs)

  pub sum_same : (f g : L → ℕ) → ((x : L) → f x ≡ g x) → (xs : List L) → sum_of f xs ≡ sum_of g xs
  sum_same f g h [] = refl
  sum_same f g h (x ∷ xs) = omega (arith, h x, sum_same f g h xs)

  pub sum_none : (xs : List L) → sum_of (λ x. 0) xs ≡ 0
  sum_none [] = refl
  sum_none (x ∷ xs) = omega (arith, sum_none xs)

  pub sum-add : (f g : L → ℕ) (xs : List L) → sum_of (λ x. f x + g x) xs ≡ sum_of f xs + sum_of g xs
  sum-add f g [] = refl
  sum-add f g (x ∷ xs) = omega (arith, sum-add f g xs)

pub sum-map : {L M : Type 0} (f : M → ℕ) (g : L → M) (xs : List L) → sum_of f (map g xs) ≡ sum_of (λ x. f (g x)) xs
sum-map f g [] = refl
sum-map f g (x ∷ xs) = omega (arith, sum-map f g xs)

-- pairs are counted alike from either list
pub sum_swap : {L M : Type 0} (e : L → M → ℕ) (xs : List L) (ys : List M)
    → sum_of (λ x. sum_of (e x) ys) xs ≡ sum_of (λ y. sum_of (λ x. e x y) xs) ys
sum_swap e xs [] = sum_none xs
sum_swap e xs (y ∷ ys) = omega (arith, sum-add (λ x. e x y) (λ x. sum_of (e x) ys) xs, sum_swap e xs ys)

-- a count of k: none, or one where k lies from lo to below hi
abbrev pub OnceIn : ℕ → ℕ → ℕ → ℕ → Type 0
OnceIn lo hi k c = (c ≡ 0) ⊎ ((c ≡ 1) × (lo ≤ k) × (k < hi))

pub once_wider : (lo hi k c : ℕ) → OnceIn (suc lo) hi k c → OnceIn lo hi k c
once_wider lo hi k c (inl e) = inl e
once_wider lo hi k c (inr e) = inr (e.0, omega arith, e.2)

pub once_more : (lo hi k c : ℕ) → lo < hi → OnceIn (suc lo) hi k c → OnceIn lo hi k (one_if (eqb k lo) + c)
once_more lo hi k c h (inl e) = elim (cases_eq k lo) [
  | inl q ↦ let one : one_if (eqb k lo) ≡ 1 = ap one_if (eq-eqb k lo q) in inr (omega arith)
  | inr q ↦ let none : one_if (eqb k lo) ≡ 0 = ap one_if (ne_eqb k lo q) in inl (omega arith)
]
once_more lo hi k c h (inr e) =
    let none : one_if (eqb k lo) ≡ 0 = ap one_if (ne_eqb k lo (λ q. omega arith)) in inr (omega arith)

pub once_le : (lo hi k c : ℕ) → OnceIn lo hi k c → c ≤ 1
once_le lo hi k c h = omega arith

-- pieces

-- how often line k stays
abbrev pub stays : ℕ → List Piece → ℕ
stays k [] = 0
stays k (old n ∷ ps) = one_if (eqb k n) + stays k ps
stays k (new t ∷ ps) = stays k ps

-- no line stays twice
abbrev pub Single : List Piece → Type 0
Single ps = (k : ℕ) → stays k ps ≤ 1

pub stays_append : (k : ℕ) (ps qs : List Piece) → stays k (ps ++ qs) ≡ stays k ps + stays k qs
stays_append k [] qs = omega arith
stays_append k (old n ∷ ps) qs = omega (arith, stays_append k ps qs)
stays_append k (new t ∷ ps) qs = stays_append k ps qs

-- how many lines the pieces create
abbrev pub creations : List Piece → ℕ
creations [] = 0
creations (old n ∷ ps) = creations ps
creations (new t ∷ ps) = suc (creations ps)

-- `placed`, where the created lines are numbered from n on
abbrev pub placed_from : {L : Type 0} → (ℕ → List ℕ → L) → ℕ → List L → List Piece → List L
placed_from make n xs [] = []
placed_from make n xs (old k ∷ ps) = picked xs k ++ placed_from make n xs ps
placed_from make n xs (new t ∷ ps) = make n t ∷ placed_from make (suc n) xs ps

-- the same pieces for the text without its first line
abbrev lowered : List Piece → List Piece
lowered [] = []
lowered (old zero ∷ ps) = lowered ps
lowered (old (suc zero) ∷ ps) = lowered ps
lowered (old (suc (suc n)) ∷ ps) = old (suc n) ∷ lowered ps
lowered (new t ∷ ps) = new t ∷ lowered ps

stays_lowered : (k : ℕ) (ps : List Piece) → stays (suc k) (lowered ps) ≡ stays (suc (suc k)) ps
stays_lowered k [] = refl
stays_lowered k (old zero ∷ ps) = rw eqb-suc-zero (omega (arith, stays_lowered k ps))
stays_lowered k (old (suc zero) ∷ ps) = rw (eqb-suc-suc, eqb-suc-zero) (omega (arith, stays_lowered k ps))
stays_lowered k (old (suc (suc n)) ∷ ps) = rw (eqb-suc-suc (suc k) (suc n)) (omega (arith, stays_lowered k ps))
stays_lowered k (new t ∷ ps) = stays_lowered k ps

module _ {L : Type 0} (make : ℕ → List ℕ → L) (f : L → ℕ) where
  -- lines created with a number from n on add nothing
  abbrev pub Weightless : ℕ → Type 0
  Weightless n = (m : ℕ) (t : List ℕ) → n ≤ m → f (make m t) ≡ 0

  placed_none : (n : ℕ) → Weightless n → (ps : List Piece) → sum_of f (placed_from make n [] ps) ≡ 0
  placed_none n z [] = refl
  placed_none n z (old zero ∷ ps) = placed_none n z ps
  placed_none n z (old (suc k) ∷ ps) = rw drop-nil (placed_none n z ps)
  placed_none n z (new t ∷ ps) = omega (arith, z n t (omega arith), placed_none (suc n) (λ m t h. z m t (omega arith)) ps)

  -- the first line counts as often as it stays
  placed_more : (n : ℕ) (x : L) (xs : List L) (ps : List Piece)
      → sum_of f (placed_from make n (x ∷ xs) ps) ≡ stays 1 ps * f x + sum_of f (placed_from make n xs (lowered ps))
  placed_more n x xs [] = omega arith
  placed_more n x xs (old zero ∷ ps) = rw zero-add (placed_more n x xs ps)
  placed_more n x xs (old (suc zero) ∷ ps) = rw (one-add, suc-mul) (omega (arith, placed_more n x xs ps))
  placed_more n x xs (old (suc (suc k)) ∷ ps) =
      rw (eqb-suc-suc, eqb-zero-suc, zero-add)
      (omega (
        arith,
        placed_more n x xs ps,
        sum-append f (take 1 (drop k xs)) (placed_from make n (x ∷ xs) ps),
        sum-append f (take 1 (drop k xs)) (placed_from make n xs (lowered ps)),
      ))
  placed_more n x xs (new t ∷ ps) = omega (arith, placed_more (suc n) x xs ps)

  at_most_once : (n : ℕ) (x : L) → n ≤ 1 → n * f x ≤ f x
  at_most_once zero x h = rw zero-mul (omega arith)
  at_most_once (suc zero) x h = rw one-mul (omega arith)
  at_most_once (suc (suc n)) x h = absurd (omega arith)

  placed_lowered_le : (n : ℕ) → Weightless n → (xs : List L) (ps : List Piece) → ((k : ℕ) → stays (suc k) ps ≤ 1)
      → sum_of f (placed_from make n xs ps) ≤ sum_of f xs
  placed_lowered_le n z [] ps h = omega (arith, placed_none n z ps)
  placed_lowered_le n z (x ∷ xs) ps h =
      omega (
        arith,
        placed_more n x xs ps,
        at_most_once (stays 1 ps) x (h 0),
        placed_lowered_le n z xs (lowered ps) (λ k. omega (arith, stays_lowered k ps, h (suc k))),
      )

  pub placed-from_le : (n : ℕ) → Weightless n → (xs : List L) (ps : List Piece) → Single ps → sum_of f (placed_from make n xs ps) ≤ sum_of f xs
  placed-from_le n z xs ps h = placed_lowered_le n z xs ps (λ k. h (suc k))

module _ {L : Type 0} (make : List ℕ → L) where
  -- where the numbers do not matter, they need not be there
  pub placed-from_any : (n : ℕ) (xs : List L) (ps : List Piece) → placed_from (λ _ t. make t) n xs ps ≡ placed make xs ps
  placed-from_any n xs [] = refl
  placed-from_any n xs (old k ∷ ps) = ap (λ r. picked xs k ++ r) (placed-from_any n xs ps)
  placed-from_any n xs (new t ∷ ps) = ap (λ r. make t ∷ r) (placed-from_any (suc n) xs ps)

  pub placed_le : (f : L → ℕ) → ((t : List ℕ) → f (make t) ≡ 0) → (xs : List L) (ps : List Piece) → Single ps
      → sum_of f (placed make xs ps) ≤ sum_of f xs
  placed_le f z xs ps h = rw (← placed-from_any 0 xs ps) (placed-from_le (λ _ t. make t) f 0 (λ _ t _. z t) xs ps h)
