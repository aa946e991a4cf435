-- The lowest bits of a number, as a tag holds them, and what adding or taking away one bit changes.
use Rattle.std.proofs.Common.{◌≡◌, ℕ, zero, suc, ◌+◌, ◌-◌, ◌*◌, ◌/◌, ◌%◌, ◌^◌, ◌<◌, ◌≤◌, true, false, eqb, ◌⊎◌, ◌∷◌, get_or, set, sym, refl, ap, ◌∙◌, inl, inr, div-one, mul_left_comm, one-add, arith}
use native.Mathlib.Nat.{pow-succ', div-eq_of_lt, add-div_right}
use Rattle.std.proofs.lemmas.Nat.{pow_pos, shr-shr}
use Rattle.std.proofs.lemmas.Bool.{cases_lt}
use Rattle.rules.specs.Lines.{bits}

-- an even number more leaves the lowest bit, and half of it goes to the others
bits_even : (n g h q : ℕ) → g ≡ h + 2 * q → bits (suc n) g ≡ eqb (h % 2) 1 ∷ bits n (h / 2 + q)
bits_even n g h q e =
    let low : g % 2 ≡ h % 2 = omega arith in
    let high : g / 2 ≡ h / 2 + q = omega arith in
    rw (low, high)

-- a multiple of 2 ^ n more leaves the n lowest bits
pub bits_above : (n g m : ℕ) → bits n (g + m * 2 ^ n) ≡ bits n g
bits_above zero g m = refl
bits_above (suc n) g m =
    let twice : m * 2 ^ suc n ≡ 2 * (m * 2 ^ n) = ap (λ p. m * p) (pow-succ' 2 n) ∙ mul_left_comm m 2 (2 ^ n) in
    let more : g + m * 2 ^ suc n ≡ g + 2 * (m * 2 ^ n) = omega arith in
    bits_even n (g + m * 2 ^ suc n) g (m * 2 ^ n) more ∙ ap (λ bs. eqb (g % 2) 1 ∷ bs) (bits_above n (g / 2) m)

-- bit k of a number, among its n lowest
pub bit_at : (n g k : ℕ) → k < n → get_or (bits n g) k false ≡ eqb (g / 2 ^ k % 2) 1
bit_at zero g k h = absurd (omega arith)
bit_at (suc n) g zero h = ap (λ q. eqb (q % 2) 1) (sym (div-one g))
bit_at (suc n) g (suc k) h =
    bit_at n (g / 2) k (omega arith) ∙ ap (λ q. eqb (q % 2) 1) (shr-shr g 1 k ∙ ap (λ j. g / 2 ^ j) (one-add k))

half_bit : (g k : ℕ) → g / 2 ^ suc k % 2 ≡ 0 → g / 2 / 2 ^ k % 2 ≡ 0
half_bit g k e = ap (λ q. q % 2) (shr-shr g 1 k ∙ ap (λ j. g / 2 ^ j) (one-add k)) ∙ e

-- setting a bit that is not set
pub bits-set : (n g k : ℕ) → k < n → g / 2 ^ k % 2 ≡ 0 → bits n (g + 2 ^ k) ≡ set (bits n g) k true
bits-set zero g k h e = absurd (omega arith)
bits-set (suc n) g zero h e =
    let even : g % 2 ≡ 0 = ap (λ q. q % 2) (sym (div-one g)) ∙ e in
    let low : (g + 1) % 2 ≡ 1 = omega arith in
    let high : (g + 1) / 2 ≡ g / 2 = omega arith in
    rw (low, high)
bits-set (suc n) g (suc k) h e =
    bits_even n (g + 2 ^ suc k) g (2 ^ k) (ap (λ p. g + p) (pow-succ' 2 k))
    ∙ ap (λ bs. eqb (g % 2) 1 ∷ bs) (bits-set n (g / 2) k (omega arith) (half_bit g k e))

-- nothing is carried then
pub set_below : (n g k : ℕ) → k < n → g / 2 ^ k % 2 ≡ 0 → g < 2 ^ n → g + 2 ^ k < 2 ^ n
set_below zero g k h e l = absurd (omega arith)
set_below (suc n) g zero h e l =
    let even : g % 2 ≡ 0 = ap (λ q. q % 2) (sym (div-one g)) ∙ e in
    let twice : 2 ^ suc n ≡ 2 * 2 ^ n = pow-succ' 2 n in
    omega arith
set_below (suc n) g (suc k) h e l =
    let twice : 2 ^ suc n ≡ 2 * 2 ^ n = pow-succ' 2 n in
    let more : 2 ^ suc k ≡ 2 * 2 ^ k = pow-succ' 2 k in
    let half : g / 2 < 2 ^ n = omega arith in
    let rest : g / 2 + 2 ^ k < 2 ^ n = set_below n (g / 2) k (omega arith) (half_bit g k e) half in
    omega arith

-- taking a bit away that is set: there is such a number below
pub bit_under : (g k : ℕ) → g / 2 ^ k % 2 ≡ 1 → (2 ^ k ≤ g) × ((g - 2 ^ k) / 2 ^ k % 2 ≡ 0)
bit_under g k e =
    let pos : zero < 2 ^ k = pow_pos k in
    let some : 0 < g / 2 ^ k = omega arith in
    let le : 2 ^ k ≤ g = by_quotient (cases_lt g (2 ^ k)) in
    let back : g - 2 ^ k + 2 ^ k ≡ g = omega arith in
    let one_less : (g - 2 ^ k) / 2 ^ k + 1 ≡ g / 2 ^ k = sym (add-div_right (g - 2 ^ k) pos) ∙ ap (λ x. x / 2 ^ k) back in
    (le, omega arith)
  where
    by_quotient : (g < 2 ^ k) ⊎ (2 ^ k ≤ g) → 2 ^ k ≤ g
    by_quotient (inl l) = let z : g / 2 ^ k ≡ 0 = div-eq_of_lt l in absurd (omega arith)
    by_quotient (inr l) = l
