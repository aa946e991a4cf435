-- The number of each fault.
use Rattle.std.specs.Prelude.{ℕ}
use Rattle.command.specs.declared.fault.Fault.{Fault}
use Rattle.command.specs.declared.fault.Fault.TheVariants.{SheetTooShort, BreakInLine, InputTooLong, SessionEnded, WrongStores, TextFull, CommandTooLong, BadCommand, BadAddress, BadPattern, NoName, BadName, NotInList, UnwantedAddress, OutsideText, NoMark, NoMatch, DestinationInRange, Unsaved, NothingToUndo, FileNotFound, ShelfFull, ProtectedName, TooManyLines, LineTooLong, SheetFull}

abbrev pub number_of : Fault → ℕ
number_of SheetTooShort = 1
number_of BreakInLine = 2
number_of InputTooLong = 3
number_of SessionEnded = 4
number_of WrongStores = 5
number_of TextFull = 10
number_of CommandTooLong = 11
number_of BadCommand = 20
number_of BadAddress = 21
number_of BadPattern = 22
number_of NoName = 23
number_of BadName = 24
number_of NotInList = 25
number_of UnwantedAddress = 26
number_of OutsideText = 30
number_of NoMark = 31
number_of NoMatch = 32
number_of DestinationInRange = 34
number_of Unsaved = 35
number_of NothingToUndo = 36
number_of FileNotFound = 50
number_of ShelfFull = 51
number_of ProtectedName = 52
number_of TooManyLines = 60
number_of LineTooLong = 61
number_of SheetFull = 62
