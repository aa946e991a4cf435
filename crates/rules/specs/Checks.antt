-- Checks in their order: the first that is not passed is the fault.
use Rattle.std.specs.Prelude.{Bool, true, false, Some, None, Ok, Err, Option}
use Rattle.command.specs.declared.fault.Fault.{Fault}
use Rattle.reading.specs.Read.{Read}

infixl 20 ◌>>◌
abbrev pub ◌>>◌ : {A B : Type 0} → Read A → Read B → Read B
◌>>◌ (Ok a) next = next
◌>>◌ (Err f) next = Err f

abbrev pub check : Bool → Fault → Read (Unit {0})
check true f = Ok tt
check false f = Err f

-- a value that must be there, or a fault
abbrev pub or_fault : {A : Type 0} → Fault → Option A → Read A
or_fault f None = Err f
or_fault f (Some a) = Ok a
