-- What is printed: lines, each with its break, and numbers in decimal.
use Rattle.std.specs.Prelude.{ℕ, zero, suc, ◌+◌, ◌/◌, ◌%◌, true, false, List, [], ◌∷◌, ◌++◌, nat_lt}
use Rattle.rules.specs.Lines.{Line}

-- the digits of n, which has at most k of them
abbrev pub digits : ℕ → ℕ → List ℕ
digits zero n = []
digits (suc k) n = elim (nat_lt n 10) [ true ↦ (48 + n) ∷ [] | false ↦ digits k (n / 10) ++ ((48 + n % 10) ∷ []) ]

abbrev pub numbered : ℕ → List ℕ
numbered n = digits (suc n) n ++ (10 ∷ [])

abbrev pub printed : List Line → List ℕ
printed [] = []
printed (l ∷ ls) = (l.text ++ (10 ∷ [])) ++ printed ls
