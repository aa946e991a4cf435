-- One step of each reader, by the byte that stands first.
use Rattle.std.proofs.Common.{◌≡◌, ℕ, zero, suc, ◌-◌, ◌<◌, Bool, true, false, List, [], ◌∷◌, ◌++◌, length, get_or, Some, None, Ok, Err, Option, sym, refl, ap, ◌∙◌, arith}
use Rattle.std.proofs.lemmas.List.{append_assoc, append-nil}
use Rattle.std.proofs.lemmas.Bool.{ne_eqb}
use Rattle.patterns.specs.declared.fault.PatternFault.{PatternFault}
use Rattle.patterns.specs.Items.{Bytes, Item, Pattern}
use Rattle.patterns.specs.Reading.{Read, ◌>>=◌, bad, item_at, ending, items_at, body_at, pattern_of}

-- reading items on, behind those that were read
abbrev pub ahead : List Item → Read (List Item × Bool) → Read (List Item × Bool)
ahead xs r = r >>= λ q. Ok (xs ++ q.0, q.1)

abbrev more-items : ℕ → ℕ → Bool → Bytes → Option Bool → Read (List Item × Bool)
more-items n delimiter first bs end =
    elim end [
      | Some back ↦ Ok ([], back)
      | None ↦ item_at delimiter first bs >>= λ r.
          items_at n delimiter false r.1 >>= λ q. Ok (r.0 ∷ q.0, q.1)
    ]

module _ (delimiter : ℕ) (first : Bool) (bs : Bytes) where
  pub items_end : (n : ℕ) (back : Bool) → Some back ≡ ending bs → items_at n delimiter first bs ≡ Ok ([], back)
  items_end zero back e = ap (λ o. elim o as (λ _. Read (List Item × Bool)) [ Some x ↦ Ok ([], x) | None ↦ bad ]) (sym e)
  items_end (suc n) back e = ap (more-items n delimiter first bs) (sym e)

  pub items_refused : (n : ℕ) (f : PatternFault) → None ≡ ending bs → Err f ≡ item_at delimiter first bs → items_at (suc n) delimiter first bs ≡ Err f
  items_refused n f e h =
      ap (more-items n delimiter first bs) (sym e)
      ∙ ap (λ x. x >>= λ r. items_at n delimiter false r.1 >>= λ q. Ok (r.0 ∷ q.0, q.1)) (sym h)

  pub items_more : (n : ℕ) (i : Item) (rest : Bytes) (xs : List Item) → None ≡ ending bs → Ok (i, rest) ≡ item_at delimiter first bs
      → ahead xs (items_at (suc n) delimiter first bs) ≡ ahead (xs ++ i ∷ []) (items_at n delimiter false rest)
  items_more n i rest xs e h =
      ap (λ o. ahead xs (more-items n delimiter first bs o)) (sym e)
      ∙ ap (λ x. ahead xs (x >>= λ r. items_at n delimiter false r.1 >>= λ q. Ok (r.0 ∷ q.0, q.1))) (sym h)
      ∙ regroup (items_at n delimiter false rest)
    where
      regroup : (r : Read (List Item × Bool)) → ahead xs (r >>= λ q. Ok (i ∷ q.0, q.1)) ≡ ahead (xs ++ i ∷ []) r
      regroup (Err f) = refl
      regroup (Ok q) = ap (λ ys. Ok (ys, q.1)) (sym (append_assoc xs (i ∷ []) q.0))

-- what the whole is read as, where `xs` were read and `bs` is left, with room for `n` items
module _ (front first : Bool) (delimiter n : ℕ) (xs : List Item) (bs part : Bytes)
    (left : ahead xs (items_at n delimiter first bs) ≡ items_at 64 delimiter true part) where
  abbrev as_pattern : Read (List Item × Bool) → Read Pattern
  as_pattern r = r >>= λ q. Ok (record { front = front; items = q.0; back = q.1 })

  pub items_done : (back : Bool) → Some back ≡ ending bs → Ok (record { front = front; items = xs; back = back }) ≡ body_at front delimiter part
  items_done back e =
      ap (λ ys. Ok (record { front = front; items = ys; back = back })) (sym (append-nil xs))
      ∙ ap (λ r. as_pattern (ahead xs r)) (sym (items_end delimiter first bs n back e))
      ∙ ap as_pattern left

  pub items_bad : (f : PatternFault) → 0 < n → None ≡ ending bs → Err f ≡ item_at delimiter first bs → Err f ≡ body_at front delimiter part
  items_bad f h e i =
      let m : n ≡ suc (n - 1) = omega arith in
      ap (λ r. as_pattern (ahead xs r)) (sym (ap (λ k. items_at k delimiter first bs) m ∙ items_refused delimiter first bs (n - 1) f e i)) ∙ ap as_pattern left

  pub items_on : (i : Item) (rest : Bytes) → 0 < n → None ≡ ending bs → Ok (i, rest) ≡ item_at delimiter first bs
      → ahead (xs ++ i ∷ []) (items_at (n - 1) delimiter false rest) ≡ items_at 64 delimiter true part
  items_on i rest h e r =
      let m : n ≡ suc (n - 1) = omega arith in
      sym (ap (λ k. ahead xs (items_at k delimiter first bs)) m ∙ items_more delimiter first bs (n - 1) i rest xs e r) ∙ left

-- a whole pattern
module _ (delimiter : ℕ) where
  pub pattern_plain : (bs : Bytes) → 0 < length bs → (get_or bs 0 0 ≡ 94 → ⊥) → pattern_of delimiter bs ≡ body_at false delimiter bs
  unfolding pattern_of
  pattern_plain [] h n = absurd (omega (arith, h))
  pattern_plain (b ∷ bs) h n =
      ap (λ t. elim t as (λ _. Read Pattern) [ true ↦ body_at true delimiter bs | false ↦ body_at false delimiter (b ∷ bs) ]) (ne_eqb b 94 n)
