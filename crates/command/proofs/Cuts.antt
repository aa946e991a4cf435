-- Cutting a list at its first cut.
use Rattle.std.proofs.Common.{◌≡◌, ℕ, zero, suc, ◌+◌, ◌-◌, ◌<◌, ◌≤◌, Bool, true, false, ◌&&◌, eqb, List, [], ◌∷◌, ◌++◌, length, get_or, take, drop, Some, None, Option, MatchOption, sym, refl, ap, ◌∙◌, append_assoc, append-nil, add-zero, add-one, take-suc, arith}
use Rattle.std.proofs.lemmas.List.{get_or-drop, length-drop, drop-drop, take-append-drop}
use Rattle.command.specs.Said.{Bytes}
use Rattle.command.specs.Lists.{with_first, commands_in}

-- bytes in front of the first command
abbrev pub in_front : Bytes → List Bytes → List Bytes
in_front xs [] = xs ∷ []
in_front xs (c ∷ cs) = (xs ++ c) ∷ cs

none_in_front : (b : ℕ) (cs : List Bytes) → in_front [] (with_first b cs) ≡ with_first b cs
none_in_front b [] = refl
none_in_front b (c ∷ cs) = refl

more_in_front : (xs : Bytes) (b : ℕ) (cs : List Bytes) → in_front xs (with_first b cs) ≡ in_front (xs ++ b ∷ []) cs
more_in_front xs b [] = refl
more_in_front xs b (c ∷ cs) = ap (λ ys. ys ∷ cs) (sym (append_assoc xs (b ∷ []) c))

-- what stands at the first two bytes
abbrev step : ℕ → ℕ → Bytes → Bool → List Bytes
step b c bs t = elim t [ true ↦ [] ∷ commands_in bs | false ↦ with_first b (commands_in (c ∷ bs)) ]

pub commands_start : (bs : Bytes) → in_front [] (commands_in bs) ≡ commands_in bs
unfolding commands_in
commands_start [] = refl
commands_start (b ∷ []) = refl
commands_start (b ∷ c ∷ bs) =
    elim (eqb b 92 && eqb c 10) as (λ t. in_front [] (step b c bs t) ≡ step b c bs t)
    [ true ↦ refl | false ↦ none_in_front b (commands_in (c ∷ bs)) ]

cut : (bs : Bytes) → 1 < length bs → (eqb (get_or bs 0 0) 92 && eqb (get_or bs 1 0) 10) ≡ true → commands_in bs ≡ [] ∷ commands_in (drop 2 bs)
unfolding commands_in
cut [] h e = absurd (omega arith)
cut (b ∷ []) h e = absurd (omega arith)
cut (b ∷ c ∷ bs) h e = ap (step b c bs) e

uncut : (bs : Bytes) → 1 < length bs → (eqb (get_or bs 0 0) 92 && eqb (get_or bs 1 0) 10) ≡ false
    → commands_in bs ≡ with_first (get_or bs 0 0) (commands_in (drop 1 bs))
unfolding commands_in
uncut [] h e = absurd (omega arith)
uncut (b ∷ []) h e = absurd (omega arith)
uncut (b ∷ c ∷ bs) h e = ap (step b c bs) e

over : (bs : Bytes) → length bs ≤ 1 → commands_in bs ≡ bs ∷ []
unfolding commands_in
over [] h = refl
over (b ∷ []) h = refl
over (b ∷ c ∷ bs) h = absurd (omega arith)

-- whether a cut stands at a place
abbrev pub cuts : Bytes → ℕ → Bool
cuts bs k = eqb (get_or bs k 0) 92 && eqb (get_or bs (k + 1) 0) 10

module _ (bs : Bytes) where
  -- the bytes in front of a place belong to the first command, where no cut stands in front of it
  pub commands_on : (at : ℕ) → at ≤ length bs - 1 → ((k : ℕ) → k < at → cuts bs k ≡ false) → commands_in bs ≡ in_front (take at bs) (commands_in (drop at bs))
  commands_on zero h none = sym (commands_start bs)
  commands_on (suc at) h none =
      let c : (eqb (get_or bs at 0) 92 && eqb (get_or bs (at + 1) 0) 10) ≡ false = none at (omega arith) in
      commands_on at (omega arith) (λ k l. none k (omega arith))
      ∙ ap (in_front (take at bs)) (uncut (drop at bs) (simp length-drop (omega arith)) (simp (get_or-drop, add-zero) c))
      ∙ more_in_front (take at bs) (get_or (drop at bs) 0 0) (commands_in (drop 1 (drop at bs)))
      ∙ sym (simp (get_or-drop, add-zero, drop-drop, take-suc bs at 0 (omega arith), add-one))

  -- what the first cut is to the commands
  pub commands_first : (r : Option ℕ)
      → MatchOption r ((k : ℕ) → k + 2 ≤ length bs → cuts bs k ≡ false)
      (λ at. (at + 2 ≤ length bs) × (cuts bs at ≡ true) × ((k : ℕ) → k < at → cuts bs k ≡ false))
      → MatchOption r (commands_in bs ≡ bs ∷ [])
      (λ at. (at + 2 ≤ length bs) × (commands_in bs ≡ take at bs ∷ commands_in (drop 2 (drop at bs))))
  commands_first None none =
      commands_on (length bs - 1) (omega arith) (λ k l. none k (omega arith))
      ∙ ap (in_front (take (length bs - 1) bs)) (over (drop (length bs - 1) bs) (simp length-drop (omega arith)))
      ∙ ap (λ xs. xs ∷ []) (take-append-drop (length bs - 1) bs)
  commands_first (Some at) some = (
    some.0,
    commands_on at (omega arith) some.2
        ∙ ap (in_front (take at bs)) (cut (drop at bs) (simp length-drop (omega arith)) (simp (get_or-drop, add-zero) some.1))
        ∙ ap (λ xs. xs ∷ commands_in (drop 2 (drop at bs))) (append-nil (take at bs)),
  )
