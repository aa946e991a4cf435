-- Cutting a part at its delimiter.
use Rattle.std.proofs.Common.{◌≡◌, ℕ, ◌+◌, ◌<◌, ◌≤◌, Bool, true, false, not, ◌&&◌, eqb, [], ◌∷◌, ◌++◌, length, get_or, take, drop, Ok, Err, sym, refl, ap, ◌∙◌, append_assoc, append-nil}
use Rattle.std.proofs.lemmas.List.{take_more, drop_more, drop_all}
use Rattle.command.specs.declared.fault.Fault.TheVariants.{BadPattern}
use Rattle.command.specs.Said.{Bytes}
use Rattle.reading.specs.Read.{Part, ◌>>=◌}
use Rattle.reading.specs.Parts.{cut_at}

-- bytes in front of a part
abbrev pub in_front : Bytes → Part Bytes → Part Bytes
in_front xs p = p >>= λ r. Ok (xs ++ r.0, r.1)

more_in_front : (xs : Bytes) (b : ℕ) (p : Part Bytes) → in_front (xs ++ b ∷ []) p ≡ in_front xs (p >>= λ r. Ok (b ∷ r.0, r.1))
more_in_front xs b (Ok r) = ap (λ ys. Ok (ys, r.1)) (append_assoc xs (b ∷ []) r.0)
more_in_front xs b (Err f) = refl

-- what stands at the first byte
abbrev step : ℕ → Bool → ℕ → Bytes → Bool → Part Bytes
step d taken b bs t =
    elim t [ true ↦ Ok ([], bs) | false ↦ cut_at d (eqb b 92 && not taken) bs >>= λ r. Ok (b ∷ r.0, r.1) ]

stepped : (d : ℕ) (taken : Bool) (b : ℕ) (bs : Bytes) (t : Bool) → (eqb b d && not taken) ≡ t → cut_at d taken (b ∷ bs) ≡ step d taken b bs t
unfolding cut_at
stepped d taken b bs t e = ap (step d taken b bs) e

module _ (d : ℕ) (bs : Bytes) (taken : Bool) (at : ℕ)
    (inv : in_front (take at bs) (cut_at d taken (drop at bs)) ≡ cut_at d false bs) where
  pub cut_ends : at < length bs → (eqb (get_or bs at 0) d && not taken) ≡ true → Ok (take at bs, drop (at + 1) bs) ≡ cut_at d false bs
  cut_ends h e =
      ap (λ xs. Ok (xs, drop (at + 1) bs)) (sym (append-nil (take at bs)))
      ∙ ap (in_front (take at bs)) (sym (ap (cut_at d taken) (drop_more bs at 0 h) ∙ stepped d taken (get_or bs at 0) (drop (at + 1) bs) true e))
      ∙ inv

  pub cut_on : at < length bs → (eqb (get_or bs at 0) d && not taken) ≡ false → (t : Bool) → t ≡ (eqb (get_or bs at 0) 92 && not taken)
      → in_front (take (at + 1) bs) (cut_at d t (drop (at + 1) bs)) ≡ cut_at d false bs
  cut_on h e t f =
      ap (λ xs. in_front xs (cut_at d t (drop (at + 1) bs))) (take_more bs at 0 h)
      ∙ more_in_front (take at bs) (get_or bs at 0) (cut_at d t (drop (at + 1) bs))
      ∙ ap (λ u. in_front (take at bs) (cut_at d u (drop (at + 1) bs) >>= λ r. Ok (get_or bs at 0 ∷ r.0, r.1))) f
      ∙ ap (in_front (take at bs)) (sym (ap (cut_at d taken) (drop_more bs at 0 h) ∙ stepped d taken (get_or bs at 0) (drop (at + 1) bs) false e))
      ∙ inv

  pub cut_never : length bs ≤ at → Err BadPattern ≡ cut_at d false bs
  unfolding cut_at
  cut_never h = ap (λ xs. in_front (take at bs) (cut_at d taken xs)) (sym (drop_all at bs h)) ∙ inv
