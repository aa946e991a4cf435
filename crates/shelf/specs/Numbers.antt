-- The number that the rules give to each refusal of a shelf.
use Rattle.std.specs.Prelude.{ℕ}
use Rattle.shelf.specs.declared.fault.ShelfFault.{ShelfFault}
use Rattle.shelf.specs.declared.fault.ShelfFault.TheVariants.{BadName, Full, Protected, NoFile}

abbrev pub number_of : ShelfFault → ℕ
number_of BadName = 24
number_of Full = 51
number_of Protected = 52
number_of NoFile = 54
