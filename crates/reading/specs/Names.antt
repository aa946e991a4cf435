-- How the name behind `e` or `w` is read.
use Rattle.std.specs.Prelude.{Bool, true, false, [], ◌∷◌, Ok, ◌==◌}
use Rattle.command.specs.declared.fault.Fault.TheVariants.{BadCommand, NoName, BadName}
use Rattle.command.specs.Said.{Bytes, FileName, remembered_name, given_name}
use Rattle.shelf.specs.Name.{is_name}
use Rattle.reading.specs.Read.{Read, when}
use Rattle.reading.specs.Parts.{space}

abbrev pub behind_spaces : Bytes → Bytes
behind_spaces [] = []
behind_spaces (b ∷ bs) = elim (b == space) [ true ↦ behind_spaces bs | false ↦ b ∷ bs ]

-- What is left behind the spaces is the name, to the end of the line. Nothing means the remembered name.
unfoldable pub name_of : Bool → Bytes → Read FileName
name_of has_name [] = when has_name NoName (Ok remembered_name)
name_of has_name (b ∷ bs) = when (is_name (b ∷ bs)) BadName (Ok (given_name (b ∷ bs)))

-- A space must part the name from the letter.
unfoldable pub name_at : Bool → Bytes → Read FileName
name_at has_name [] = name_of has_name []
name_at has_name (b ∷ bs) = when (b == space) BadCommand (name_of has_name (behind_spaces bs))
