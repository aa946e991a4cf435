-- The number that the rules give to each refusal to make a guard.
use Rattle.std.specs.Prelude.{ℕ}
use Rattle.guard.specs.declared.fault.GuardFault.{GuardFault}
use Rattle.guard.specs.declared.fault.GuardFault.TheVariants.{BadPrefix}

abbrev pub number_of : GuardFault → ℕ
number_of BadPrefix = 24
