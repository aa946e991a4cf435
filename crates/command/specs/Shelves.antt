-- What a shelf's refusal is to the line that met it.
use Rattle.shelf.specs.declared.fault.ShelfFault.{ShelfFault}
use Rattle.shelf.specs.declared.fault.ShelfFault.TheVariants as says
use Rattle.command.specs.declared.fault.Fault.{Fault}
use Rattle.command.specs.declared.fault.Fault.TheVariants.{BadName, ShelfFull, ProtectedName, FileNotFound}

abbrev pub shelf_fault : ShelfFault → Fault
shelf_fault says.BadName = BadName
shelf_fault says.Full = ShelfFull
shelf_fault says.Protected = ProtectedName
shelf_fault says.NoFile = FileNotFound
