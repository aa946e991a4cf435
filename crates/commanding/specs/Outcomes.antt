-- What an answer of the code says of an outcome: its fault, and how many bytes it printed.
use Rattle.std.specs.Prelude.{ℕ, Some, None, Ok, Err, Option, Result}
use Rattle.command.specs.declared.fault.Fault.{Fault}

abbrev pub fault_of : {A : Type 0} → Result A Fault → Option Fault
fault_of (Ok a) = None
fault_of (Err f) = Some f

-- a refusal prints nothing
abbrev pub bytes_of : Result ℕ Fault → ℕ
bytes_of (Ok n) = n
bytes_of (Err f) = 0
