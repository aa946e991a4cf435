-- The number that the rules give to each refusal of a line store.
use Rattle.std.specs.Prelude.{ℕ}
use Rattle.lines.specs.declared.fault.StoreFault.{StoreFault}
use Rattle.lines.specs.declared.fault.StoreFault.TheVariants.{Outside, Full, BadText, ShortBuffer}

abbrev pub number_of : StoreFault → ℕ
number_of Outside = 30
number_of Full = 60
number_of BadText = 61
number_of ShortBuffer = 62
