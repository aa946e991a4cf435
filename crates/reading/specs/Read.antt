-- Reading from the left: what is read, or the first fault that is met.
use Rattle.std.specs.Prelude.{ℕ, Bool, true, false, [], ◌∷◌, Ok, Err, Result}
use Rattle.command.specs.declared.fault.Fault.{Fault}
use Rattle.command.specs.Said.{Bytes}

abbrev pub Read : Type 0 → Type 0
Read A = Result A Fault

-- What is read of the front of some bytes, and the bytes behind it.
abbrev pub Part : Type 0 → Type 0
Part A = Read (A × Bytes)

-- Reading on: the first fault stands.
infixl 20 ◌>>=◌
abbrev pub ◌>>=◌ : {A B : Type 0} → Read A → (A → Read B) → Read B
◌>>=◌ (Ok a) next = next a
◌>>=◌ (Err f) next = Err f

-- Reading on where a test is passed.
abbrev pub when : {A : Type 0} → Bool → Fault → Read A → Read A
when true f next = next
when false f next = Err f

-- Whether the first of some bytes passes a test.
abbrev pub begins : (ℕ → Bool) → Bytes → Bool
begins test [] = false
begins test (b ∷ bs) = test b
