-- A global's lines as it chooses them, and the count of those that had no turn.
use Rattle.std.proofs.Common.{◌≡◌, ℕ, zero, suc, ◌+◌, ◌≤◌, Bool, eqb, List, [], ◌∷◌, map, length, refl, ap, ◌∙◌, inl, le_refl, arith}
use Rattle.std.proofs.lemmas.Bool.{eq-eqb}
use Rattle.std.proofs.lemmas.Bool.Decides.{nat_tests}
use Rattle.rules.specs.Dealing.{numbers_from}
use Rattle.rules.specs.Doing.{texts_of}
use Rattle.rules.specs.Globals.{one_if, sum_of, choice, chosen_in}
use Rattle.rules.specs.Lines.{Line}
use Rattle.rules.specs.Turns.{standing, times, Numbered, chosen_from, known_from, missed}
use Rattle.rules.proofs.Beginning.{waiting_in, waiting}
use Rattle.rules.proofs.Following.{Beside}
use Rattle.rules.proofs.Sums.{one-and_true, one-and_false, sum_same, sum_swap, OnceIn, once_more}
use Rattle.rules.proofs.Whenever.{by_test}

-- the start: the lines as they are chosen

module _ (want : ℕ → List ℕ → Bool) where
  pub start_beside : (n : ℕ) (ls : List Line) → Beside (known_from want n ls) (choice want n ls)
  start_beside n [] = refl
  start_beside n (l ∷ ls) = ap (λ fs. (l.text, want n l.text) ∷ fs) (start_beside (suc n) ls)

  pub start_enough : (n : ℕ) (ls : List Line) → waiting_in (known_from want n ls) ≡ chosen_in (choice want n ls)
  start_enough n [] = refl
  start_enough n (l ∷ ls) = ap (λ m. one_if (want n l.text) + m) (start_enough (suc n) ls)

  start-once : (k n : ℕ) (ls : List Line) (hi : ℕ) → n + length ls ≡ hi → OnceIn n hi k (standing k (known_from want n ls))
  start-once k n [] hi e = inl refl
  start-once k n (l ∷ ls) hi e = once_more n hi k _ (omega arith) (start-once k (suc n) ls hi (omega arith))

  pub start-serials : (n : ℕ) (ls : List Line) → map (λ x. x.serial) (known_from want n ls) ≡ numbers_from n ls
  start-serials n [] = refl
  start-serials n (l ∷ ls) = ap (λ ks. n ∷ ks) (start-serials (suc n) ls)

  pub start-texts : (n : ℕ) (ls : List Line) → map (λ x. x.text) (known_from want n ls) ≡ texts_of ls
  start-texts n [] = refl
  start-texts n (l ∷ ls) = ap (λ ts. l.text ∷ ts) (start-texts (suc n) ls)

  pub start-numbered : (ls : List Line) → Numbered (suc (length ls)) (known_from want 1 ls)
  start-numbered ls = ((λ k. let c = once k in omega arith), λ k h. let c = once k in omega arith)
    where
      once : (k : ℕ) → OnceIn 1 (suc (length ls)) k (standing k (known_from want 1 ls))
      once k = start-once k 1 ls (suc (length ls)) (omega arith)

  pub start_waiting : (k n : ℕ) (ls : List Line) → waiting k (known_from want n ls) ≡ times k (chosen_from want n ls)
  start_waiting k n [] = refl
  start_waiting k n (l ∷ ls) =
      by_test (λ ms. waiting k (known_from want n (l ∷ ls)) ≡ times k ms) (want n l.text) _ _
      (λ e. rw e (omega (arith, start_waiting k (suc n) ls, one-and_true (eqb k n))))
      (λ e. rw e (omega (arith, start_waiting k (suc n) ls, one-and_false (eqb k n))))

  pub start-chosen : (n : ℕ) (ls : List Line) → chosen_in (choice want n ls) ≡ length (chosen_from want n ls)
  start-chosen n [] = refl
  start-chosen n (l ∷ ls) =
      by_test (λ (ms : List ℕ). chosen_in (choice want n (l ∷ ls)) ≡ length ms) (want n l.text) _ _
      (λ e. rw e (omega (arith, start-chosen (suc n) ls)))
      (λ e. rw e (omega (arith, start-chosen (suc n) ls)))

-- the counts

eqb_sym : (a b : ℕ) → eqb a b ≡ eqb b a
eqb_sym a b = grind (arith, nat_tests)

both_ways : (xs ys : List ℕ) → sum_of (λ k. times k ys) xs ≡ sum_of (λ y. times y xs) ys
both_ways xs ys =
    sum_swap (λ k y. one_if (eqb k y)) xs ys
    ∙ sum_same _ (λ y. times y xs) (λ y. sum_same (λ k. one_if (eqb k y)) (λ k. one_if (eqb y k)) (λ k. ap one_if (eqb_sym k y)) xs) ys

-- each of zs, which are all in ys, is once in xs
all_once : (xs ys zs : List ℕ) → ((k : ℕ) → 1 ≤ times k ys → times k xs ≡ 1) → ((k : ℕ) → times k zs ≤ times k ys)
    → sum_of (λ z. times z xs) zs ≡ length zs
all_once xs ys [] once in_ys = refl
all_once xs ys (z ∷ zs) once in_ys =
    let here : one_if (eqb z z) ≡ 1 = ap one_if (eq-eqb z z refl) in
    omega (arith, once z (omega (arith, in_ys z)), all_once xs ys zs once (λ k. omega (arith, in_ys k)))

missed-or_had : (n : ℕ) → n ≤ 1 → one_if (eqb n 0) + n ≡ 1
missed-or_had zero h = refl
missed-or_had (suc zero) h = refl
missed-or_had (suc (suc n)) h = absurd (omega arith)

missed-and_had : (xs had : List ℕ) → ((k : ℕ) → times k had ≤ 1) → length xs ≡ missed xs had + sum_of (λ k. times k had) xs
missed-and_had [] had h = refl
missed-and_had (x ∷ xs) had h = omega (arith, missed-or_had (times x had) (h x), missed-and_had xs had h)

-- where each chosen line is chosen once, and had at most as many turns as it was chosen
pub count-turns : (chosen had : List ℕ) → ((k : ℕ) → times k chosen ≤ 1) → ((k : ℕ) → times k had ≤ times k chosen)
    → length chosen ≡ length had + missed chosen had
count-turns chosen had most only =
    omega (
      arith,
      missed-and_had chosen had (λ k. omega (arith, only k, most k)),
      both_ways chosen had,
      all_once chosen had had (λ k h. omega (arith, only k, most k)) (λ k. le_refl (times k had)),
    )
