-- The offsets of an address, one at a time.
use Rattle.std.proofs.Common.{◌≡◌, ℕ, ◌+◌, zero, suc, ◌-◌, ◌≤◌, Bool, true, false, eqb, [], ◌∷◌, length, Ok, Err, sym, refl, ap, ◌∙◌, arith}
use Rattle.std.proofs.lemmas.Bool.{eq-eqb, ne_eqb, cond-true, cond-false}
use Rattle.command.specs.declared.fault.Fault.{Fault}
use Rattle.command.specs.Said.{Bytes, Address}
use Rattle.reading.specs.Read.{Read, Part, ◌>>=◌, begins}
use Rattle.reading.specs.Addresses.{number_at, is_sign, moved, offsets_at}

-- behind a sign
abbrev step : ℕ → Address → ℕ → Bytes → Bool → Part Address
step n a b bs t = elim t [ true ↦ number_at bs >>= λ r. offsets_at n (moved b r.0 a) r.1 | false ↦ Ok (a, b ∷ bs) ]

pub offsets_over : (n : ℕ) (a : Address) (bs : Bytes) → begins is_sign bs ≡ false → Ok (a, bs) ≡ offsets_at n a bs
unfolding offsets_at
offsets_over zero a bs e = refl
offsets_over (suc n) a [] e = refl
offsets_over (suc n) a (b ∷ bs) e = ap (step n a b bs) (sym e)

signed : (n : ℕ) (a : Address) (b : ℕ) (bs : Bytes) → is_sign b ≡ true
    → (number_at bs >>= λ r. offsets_at n (moved b r.0 a) r.1) ≡ offsets_at (suc n) a (b ∷ bs)
unfolding offsets_at
signed n a b bs e = ap (step n a b bs) (sym e)

-- there is fuel left where a byte is
module _ (n : ℕ) (a : Address) (bs : Bytes) (h : length bs ≤ n) (b : ℕ) (behind : Bytes) (s : (bs ≡ b ∷ behind) × (is_sign b ≡ true)) where
  abbrev onward : ℕ → Read (ℕ × Bytes) → Part Address
  onward k m = m >>= λ r. offsets_at k (moved b r.0 a) r.1

  reads : onward (n - 1) (number_at behind) ≡ offsets_at n a bs
  reads =
      let some : n ≡ suc (n - 1) = omega (arith, ap length s.0) in
      signed (n - 1) a b behind s.1 ∙ ap (λ k. offsets_at k a (b ∷ behind)) (sym some) ∙ ap (offsets_at n a) (sym s.0)

  pub offsets_refused : (f : Fault) → Err f ≡ number_at behind → Err f ≡ offsets_at n a bs
  offsets_refused f e = ap (onward (n - 1)) e ∙ reads

  module _ (v : ℕ) (rest : Bytes) (e : Ok (v, rest) ≡ number_at behind) where
    pub offsets_ahead : b ≡ 43 → offsets_at (n - 1) (record { base = a.base; ahead = a.ahead + v; back = a.back }) rest ≡ offsets_at n a bs
    offsets_ahead p =
        ap (λ x. offsets_at (n - 1) x rest) (sym (cond-true (eqb b 43) _ _ (eq-eqb b 43 p))) ∙ ap (onward (n - 1)) e ∙ reads

    pub offsets_back : (b ≡ 43 → ⊥) → offsets_at (n - 1) (record { base = a.base; ahead = a.ahead; back = a.back + v }) rest ≡ offsets_at n a bs
    offsets_back p =
        ap (λ x. offsets_at (n - 1) x rest) (sym (cond-false (eqb b 43) _ _ (ne_eqb b 43 p))) ∙ ap (onward (n - 1)) e ∙ reads
