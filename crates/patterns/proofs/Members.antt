-- Members inside brackets: one step of `members_at`, by the byte that stands first.
use Rattle.std.proofs.Common.{◌≡◌, ℕ, zero, suc, ◌-◌, ◌<◌, ◌≤◌, Bool, true, false, not, ◌&&◌, eqb, [], ◌∷◌, length, get_or, drop, Ok, Err, sym, refl, ap, ◌∙◌, arith}
use Rattle.patterns.specs.declared.fault.PatternFault.{PatternFault}
use Rattle.patterns.specs.Sets.{Set, with_span}
use Rattle.patterns.specs.Items.{Bytes}
use Rattle.patterns.specs.Reading.{Read, ◌>>=◌, bad, closing, member_at, members_at}

-- what `members_at` does at a byte, with `closes` for its test
abbrev pub stepped : ℕ → Bool → Set → ℕ → Bytes → Read (Set × Bytes)
stepped n closes s b bs =
    elim closes [
      | true ↦ Ok (s, bs)
      | false ↦ member_at b bs >>= λ m. members_at n false (with_span m.0 m.1 s) m.2
    ]

pub members_end : (n : ℕ) (first : Bool) (s : Set) (bs : Bytes) → length bs ≡ 0 → members_at n first s bs ≡ bad
members_end zero first s bs h = refl
members_end (suc n) first s [] h = refl
members_end (suc n) first s (b ∷ bs) h = absurd (omega arith)

module _ (first : Bool) (s : Set) where
  pub step : (n : ℕ) (bs : Bytes) → 0 < length bs → length bs ≤ n
      → members_at n first s bs ≡ stepped (n - 1) (eqb (get_or bs 0 0) closing && not first) s (get_or bs 0 0) (drop 1 bs)
  step n [] some enough = absurd (omega arith)
  step zero (b ∷ bs) some enough = absurd (omega arith)
  step (suc n) (b ∷ bs) some enough =
      let m : n ≡ suc n - 1 = omega arith in ap (λ k. stepped k (eqb b closing && not first) s b bs) m

  module _ (n : ℕ) (bs : Bytes) (some : 0 < length bs) (enough : length bs ≤ n) where
    -- the closing `]`
    pub closed : (eqb (get_or bs 0 0) closing && not first) ≡ true → members_at n first s bs ≡ Ok (s, drop 1 bs)
    closed e =
        step n bs some enough ∙ ap (λ t. stepped (n - 1) t s (get_or bs 0 0) (drop 1 bs)) e

    module _ (more : (eqb (get_or bs 0 0) closing && not first) ≡ false) where
      open_step : members_at n first s bs ≡ (member_at (get_or bs 0 0) (drop 1 bs) >>= λ m. members_at (n - 1) false (with_span m.0 m.1 s) m.2)
      open_step = step n bs some enough ∙ ap (λ t. stepped (n - 1) t s (get_or bs 0 0) (drop 1 bs)) more

      -- a bad member
      pub refused : (f : PatternFault) → Err f ≡ member_at (get_or bs 0 0) (drop 1 bs) → Err f ≡ members_at n first s bs
      refused f e = ap (λ r. r >>= λ m. members_at (n - 1) false (with_span m.0 m.1 s) m.2) e ∙ sym open_step

      -- a member, and what is left behind it
      pub taken : (low high : ℕ) (rest : Bytes) → Ok (low, high, rest) ≡ member_at (get_or bs 0 0) (drop 1 bs)
          → members_at (n - 1) false (with_span low high s) rest ≡ members_at n first s bs
      taken low high rest e = ap (λ r. r >>= λ m. members_at (n - 1) false (with_span m.0 m.1 s) m.2) e ∙ sym open_step
