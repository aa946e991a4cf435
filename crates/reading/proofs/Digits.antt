-- Reading digits, one at a time.
use Rattle.std.proofs.Common.{◌≡◌, ℕ, ◌+◌, ◌-◌, ◌*◌, ◌<◌, ◌≤◌, Bool, true, false, cond, ◌&&◌, leb, [], ◌∷◌, length, is_some, Some, None, Ok, Err, Option, sym, refl, ap, ◌∙◌, arith}
use Rattle.std.proofs.lemmas.Bool.{le-leb, lt-leb, and_from, and_right}
use Rattle.command.specs.declared.fault.Fault.TheVariants.{BadAddress}
use Rattle.command.specs.Said.{Bytes}
use Rattle.reading.specs.Read.{Part, when, begins}
use Rattle.reading.specs.Addresses.{is_digit, digit_at, digits_at, number_at}

-- reading on behind the first digit
abbrev stepped : ℕ → Bytes → Option (ℕ × Bytes) → ℕ × Bytes
stepped v bs (Some r) = digits_at (v * 10 + r.0) r.1
stepped v bs None = (v, bs)

abbrev digit_or : ℕ → Bytes → Bool → Option (ℕ × Bytes)
digit_or b bs t = cond t (Some (b - 48, bs)) None

abbrev digits-or : ℕ → ℕ → Bytes → Bool → ℕ × Bytes
digits-or v b bs t = elim t [ true ↦ digits_at (v * 10 + (b - 48)) bs | false ↦ (v, b ∷ bs) ]

digits_step : (v : ℕ) (bs : Bytes) → digits_at v bs ≡ stepped v bs (digit_at bs)
unfolding digit_at
digits_step v [] = refl
digits_step v (b ∷ bs) =
    elim (is_digit b) as (λ t. digits-or v b bs t ≡ stepped v (b ∷ bs) (digit_or b bs t)) [ true ↦ refl | false ↦ refl ]

-- more digits make no number smaller, and leave no more bytes
grows : (v : ℕ) (bs : Bytes) → (v ≤ (digits_at v bs).0) × (length (digits_at v bs).1 ≤ length bs)
grows v [] = (omega arith, omega arith)
grows v (b ∷ bs) =
    elim (is_digit b) as (λ t. (v ≤ (digits-or v b bs t).0) × (length (digits-or v b bs t).1 ≤ length (b ∷ bs))) [
      | true ↦ (let h = grows (v * 10 + (b - 48)) bs in (omega (arith, h.0), omega (arith, h.1)))
      | false ↦ (omega arith, omega arith)
    ]

pub digits_on : (v : ℕ) (bs : Bytes) (d : ℕ) (rest : Bytes) → Some (d, rest) ≡ digit_at bs → digits_at (v * 10 + d) rest ≡ digits_at v bs
digits_on v bs d rest e = ap (stepped v bs) e ∙ sym (digits_step v bs)

pub digits_first : (bs : Bytes) (d : ℕ) (rest : Bytes) → Some (d, rest) ≡ digit_at bs → digits_at d rest ≡ digits_at 0 bs
digits_first bs d rest e = let z : d ≡ 0 * 10 + d = omega arith in ap (λ v. digits_at v rest) z ∙ digits_on 0 bs d rest e

digits-over : (v : ℕ) (bs : Bytes) → None ≡ digit_at bs → (v, bs) ≡ digits_at v bs
digits-over v bs e = ap (stepped v bs) e ∙ sym (digits_step v bs)

begins_some : (bs : Bytes) → begins is_digit bs ≡ is_some (digit_at bs)
unfolding digit_at
begins_some [] = refl
begins_some (b ∷ bs) = elim (is_digit b) as (λ t. t ≡ is_some (digit_or b bs t)) [ true ↦ refl | false ↦ refl ]

module _ (bs : Bytes) where
  abbrev judged : Bool → ℕ × Bytes → Part ℕ
  judged t r = when (t && leb r.0 65535) BadAddress (Ok r)

  pub number_none : None ≡ digit_at bs → Err BadAddress ≡ number_at bs
  unfolding number_at
  number_none e = ap (λ t. judged t (digits_at 0 bs)) (ap is_some e ∙ sym (begins_some bs))

  module _ (v : ℕ) (rest : Bytes) (inv : digits_at v rest ≡ digits_at 0 bs) where
    pub number_over : 65535 < v → Err BadAddress ≡ number_at bs
    unfolding number_at
    number_over l =
        let r = digits_at 0 bs in
        let big : 65535 < r.0 = omega (arith, (grows v rest).0, ap (λ p. p.0) inv) in
        ap (λ t. when t BadAddress (Ok r)) (sym (and_right (begins is_digit bs) (leb r.0 65535) (lt-leb r.0 65535 big)))

    pub number_is : (d : ℕ) (behind : Bytes) → Some (d, behind) ≡ digit_at bs → None ≡ digit_at rest → v ≤ 65535 → Ok (v, rest) ≡ number_at bs
    unfolding number_at
    number_is d behind some none l =
        ap (λ t. when t BadAddress (Ok (v, rest))) (sym (and_from (begins is_digit bs) (leb v 65535) (begins_some bs ∙ sym (ap is_some some)) (le-leb v 65535 l)))
        ∙ ap (judged (begins is_digit bs)) (digits-over v rest none ∙ inv)
