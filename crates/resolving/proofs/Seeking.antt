-- The first line that passes a test, step by step.
use Rattle.std.proofs.Common.{◌≡◌, ℕ, suc, ◌≤◌, Bool, true, false, List, [], ◌∷◌, length, take, drop, IfSome, Some, None, Ok, Err, Option, sym, refl, ap, ◌∙◌, arith}
use Rattle.std.proofs.lemmas.List.{take_all}
use Rattle.patterns.specs.declared.fault.PatternFault.{PatternFault}
use Rattle.patterns.specs.Items.{Pattern}
use Rattle.patterns.specs.Reading.{pattern_of}
use Rattle.command.specs.Said.{Sought}
use Rattle.rules.specs.Addresses.{or_else, next_match, slashed}
use Rattle.rules.specs.Lines.{Line, page, first_where}
use Rattle.rules.specs.Patterns.{found, matches}
use Rattle.resolving.specs.Lookup.{fits}

module _ {L : Type 0} where
  pub first-later : (test : L → Bool) (n : ℕ) (l : L) (ls : List L) → test l ≡ false → first_where test n (l ∷ ls) ≡ first_where test (suc n) ls
  first-later test n l ls h = ap (λ (b : Bool). elim b as (λ _. Option ℕ) [ true ↦ Some n | false ↦ first_where test (suc n) ls ]) h

  pub first_none : (test : L → Bool) → ((l : L) → test l ≡ false) → (n : ℕ) (ls : List L) → first_where test n ls ≡ None
  first_none test h n [] = refl
  first_none test h n (l ∷ ls) = first-later test n l ls (h l) ∙ first_none test h (suc n) ls

  pub first_same : (a b : L → Bool) → ((l : L) → a l ≡ b l) → (n : ℕ) (ls : List L) → first_where a n ls ≡ first_where b n ls
  first_same a b h n [] = refl
  first_same a b h n (l ∷ ls) =
      ap (λ (t : Bool). elim t as (λ _. Option ℕ) [ true ↦ Some n | false ↦ first_where a (suc n) ls ]) (h l)
      ∙ ap (λ (o : Option ℕ). elim (b l) as (λ _. Option ℕ) [ true ↦ Some n | false ↦ o ]) (first_same a b h (suc n) ls)

-- what a part that is a pattern finds, and one that is not
pub part-matches : (s : Sought) (p : Pattern) → pattern_of s.delimiter s.part ≡ Ok p → (l : Line) → matches s l.text ≡ fits p l
unfolding found
part-matches s p e l = rw e refl

pub no-part-matches : (s : Sought) (f : PatternFault) → pattern_of s.delimiter s.part ≡ Err f → (l : Line) → matches s l.text ≡ false
unfolding found
no-part-matches s f e l = rw e refl

module _ (ls : List Line) (current : ℕ) (part : List ℕ) where
  pub next_found : (p : Pattern) (n : ℕ) → n ≡ length ls → pattern_of 47 part ≡ Ok p
      → next_match (page ls current) (slashed part)
      ≡ or_else (first_where (fits p) (suc current) (drop current (take n ls))) (first_where (fits p) 1 (drop 0 (take current ls)))
  next_found p n e q =
      let all : take n ls ≡ ls = take_all n ls (omega arith) in
      ap (λ (o : Option ℕ). or_else o (first_where (λ l. matches (slashed part) l.text) 1 (take current ls)))
      (first_same (λ l. matches (slashed part) l.text) (fits p) (part-matches (slashed part) p q) (suc current) (drop current ls)
      ∙ ap (λ (xs : List Line). first_where (fits p) (suc current) (drop current xs)) (sym all))
      ∙ ap (λ (o : Option ℕ). or_else (first_where (fits p) (suc current) (drop current (take n ls))) o)
      (first_same (λ l. matches (slashed part) l.text) (fits p) (part-matches (slashed part) p q) 1 (take current ls))

  pub next_none : (f : PatternFault) → pattern_of 47 part ≡ Err f → next_match (page ls current) (slashed part) ≡ None
  next_none f q =
      ap (λ (o : Option ℕ). or_else o (first_where (λ l. matches (slashed part) l.text) 1 (take current ls)))
      (first_none (λ l. matches (slashed part) l.text) (no-part-matches (slashed part) f q) (suc current) (drop current ls))
      ∙ first_none (λ l. matches (slashed part) l.text) (no-part-matches (slashed part) f q) 1 (take current ls)

pub within_more : (r : Option ℕ) (a b : ℕ) → a ≤ b → IfSome r (λ n. n ≤ a) → IfSome r (λ n. n ≤ b)
within_more None a b h k = tt
within_more (Some n) a b h k = omega arith
