-- The number that the rules give to each refusal to make a thing with a capacity, and what making one answers.
-- Whether memory suffices is the one thing that no rule tells.
use Rattle.std.specs.Prelude.{◌≡◌, ℕ, Bool, true, false, Ok, Err, Result}
use Rattle.making.specs.declared.MakeFault.{MakeFault}
use Rattle.making.specs.declared.MakeFault.TheVariants.{Capacity, Memory}

abbrev pub number_of : MakeFault → ℕ
number_of Capacity = 30
number_of Memory = 90

-- where these capacities are allowed: a thing that means the empty one of that capacity, or a refusal that says what is wrong
abbrev pub MadeEmpty : {S M : Type 0} → (ℕ → Bool) → (ℕ → M) → (S → M) → ℕ → Result S MakeFault → Type 0
MadeEmpty allowed empty meaning capacity (Ok s) = (allowed capacity ≡ true) × (meaning s ≡ empty capacity)
MadeEmpty allowed empty meaning capacity (Err Capacity) = allowed capacity ≡ false
MadeEmpty allowed empty meaning capacity (Err Memory) = allowed capacity ≡ true
