-- The digits of a number are what std prints of it.
use Rattle.std.proofs.Common.{◌≡◌, ℕ, suc, ◌+◌, ◌/◌, ◌%◌, ◌^◌, ◌<◌, Bool, true, false, List, [], ◌∷◌, ◌++◌, length, sym, ap, ◌∙◌, arith}
use Rattle.std.specs.Fmt.{decimal}
use Rattle.std.proofs.lemmas.Fmt.{AppendsLastDigit, decimal_from_appends, length-decimal-le_succ}
use Rattle.std.proofs.lemmas.List.{length_push}
use Rattle.std.proofs.lemmas.Bool.{lt-ltb, le-ltb}
use Rattle.rules.specs.Printing.{digits, numbered}

abbrev step : ℕ → ℕ → Bool → List ℕ
step k n t = elim t [ true ↦ (48 + n) ∷ [] | false ↦ digits k (n / 10) ++ ((48 + n % 10) ∷ []) ]

appends : AppendsLastDigit digits
appends = record { one = λ k n h. ap (step k n) (lt-ltb n 10 h); more = λ k n h. ap (step k n) (le-ltb n 10 h) }

pub numbered_is : (n : ℕ) → n < 2 ^ 64 → numbered n ≡ decimal n ++ (10 ∷ [])
numbered_is n h =
    ap (λ ds. ds ++ (10 ∷ [])) (decimal_from_appends digits appends (suc n) n h (let l = length-decimal-le_succ n h in omega arith))

pub number-length : (n : ℕ) → n < 2 ^ 64 → length (numbered n) ≡ length (decimal n) + 1
number-length n h = ap length (numbered_is n h) ∙ length_push (decimal n) 10

-- by its digits, as they are printed
pub size_is : (n : ℕ) (ds : List ℕ) → n < 2 ^ 64 → ds ≡ decimal n → length (numbered n) ≡ length ds + 1
size_is n ds h e = number-length n h ∙ ap (λ xs. length xs + 1) (sym e)
