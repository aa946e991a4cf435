-- What is done to lines by their numbers is done alike to what is read off each of them.
use Rattle.std.proofs.Common.{◌≡◌, ℕ, zero, suc, Bool, true, false, List, [], ◌∷◌, map, drop, Some, Option, refl, ap}
use mathlib.Core.List.{map-append}
use Rattle.std.proofs.lemmas.List.{take-map, drop-map}
use Rattle.rules.specs.Lines.{picked, on_line, first_where}
use Rattle.rules.specs.Pieces.{Piece, old, new, placed}
use Rattle.rules.proofs.Sums.{placed_from}

module _ {L M : Type 0} (g : L → M) where
  pub map-picked : (n : ℕ) (ls : List L) → map g (picked ls n) ≡ picked (map g ls) n
  map-picked zero ls = refl
  map-picked (suc n) ls = rw (drop-map g n ls, take-map g 1 (drop n ls))

  pub map-placed : (make : List ℕ → L) (ls : List L) (ps : List Piece) → map g (placed make ls ps) ≡ placed (λ t. g (make t)) (map g ls) ps
  map-placed make ls [] = refl
  map-placed make ls (old n ∷ ps) = rw (map-append g (picked ls n) (placed make ls ps), map-picked n ls, map-placed make ls ps)
  map-placed make ls (new t ∷ ps) = ap (λ r. g (make t) ∷ r) (map-placed make ls ps)

  pub map-placed-from : (make : ℕ → List ℕ → L) (m : ℕ) (ls : List L) (ps : List Piece)
      → map g (placed_from make m ls ps) ≡ placed_from (λ m t. g (make m t)) m (map g ls) ps
  map-placed-from make m ls [] = refl
  map-placed-from make m ls (old n ∷ ps) =
      rw (map-append g (picked ls n) (placed_from make m ls ps), map-picked n ls, map-placed-from make m ls ps)
  map-placed-from make m ls (new t ∷ ps) = ap (λ r. g (make m t) ∷ r) (map-placed-from make (suc m) ls ps)

  pub map_on-line : (f : L → L) (h : M → M) → ((l : L) → g (f l) ≡ h (g l)) → (n : ℕ) (ls : List L)
      → map g (on_line n f ls) ≡ on_line n h (map g ls)
  map_on-line f h e n [] = refl
  map_on-line f h e zero (l ∷ ls) = refl
  map_on-line f h e (suc zero) (l ∷ ls) = ap (λ m. m ∷ map g ls) (e l)
  map_on-line f h e (suc (suc n)) (l ∷ ls) = ap (λ r. g l ∷ r) (map_on-line f h e (suc n) ls)

  pub first_where_map : (test : M → Bool) (n : ℕ) (ls : List L) → first_where test n (map g ls) ≡ first_where (λ l. test (g l)) n ls
  first_where_map test n [] = refl
  first_where_map test n (l ∷ ls) =
      ap (λ o. elim (test (g l)) as (λ _. Option ℕ) [ true ↦ Some n | false ↦ o ]) (first_where_map test (suc n) ls)

-- what leaves a line's reading alone leaves those of all lines alone
pub on-line-alone : {L M : Type 0} (g : L → M) (f : L → L) → ((l : L) → g (f l) ≡ g l) → (n : ℕ) (ls : List L)
    → map g (on_line n f ls) ≡ map g ls
on-line-alone g f e n [] = refl
on-line-alone g f e zero (l ∷ ls) = refl
on-line-alone g f e (suc zero) (l ∷ ls) = ap (λ m. m ∷ map g ls) (e l)
on-line-alone g f e (suc (suc n)) (l ∷ ls) = ap (λ r. g l ∷ r) (on-line-alone g f e (suc n) ls)
