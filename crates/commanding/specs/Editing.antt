-- What `e` comes to once the name is known, and the checks of the file's contents.
use Rattle.std.specs.Prelude.{ℕ, List, length, Ok, Option, nat_le}
use Rattle.command.specs.declared.fault.Fault.TheVariants.{FileNotFound, TooManyLines, LineTooLong, SheetFull}
use Rattle.reading.specs.Read.{Read}
use Rattle.rules.specs.Checks.{◌>>◌, check, or_fault}
use Rattle.rules.specs.Commands.{Outcome, reading, accepted, or_refusal, loaded}
use Rattle.lines.specs.Line.{all_fit}
use Rattle.rules.specs.Files.{contents_of, split}
use Rattle.rules.specs.Printing.{numbered}
use Rattle.rules.specs.World.{World}

-- whether these contents may be read into a text of this capacity, and their size printed; if so, the size
abbrev pub readable : ℕ → ℕ → List ℕ → Read ℕ
readable capacity room c =
    check (nat_le (length (split c)) capacity) TooManyLines
    >> (check (all_fit (split c)) LineTooLong >> (check (nat_le (length (numbered (length c))) room) SheetFull >> Ok (length c)))

-- the file of a name read in, where these are its contents
abbrev pub read_as : ℕ → World → List ℕ → Option (List ℕ) → Outcome
read_as room w f o = or_refusal w (or_fault FileNotFound o) λ c.
    or_refusal w (readable w.capacity room c) λ n. accepted reading (loaded w f c) (numbered n)

abbrev pub read_named : ℕ → World → List ℕ → Outcome
read_named room w f = read_as room w f (contents_of w.shelf f)
