-- How the list of a global is cut into commands.
use Rattle.std.specs.Prelude.{ℕ, true, false, ◌&&◌, List, [], ◌∷◌, ◌==◌}
use Rattle.command.specs.Said.{Bytes}
use Rattle.command.specs.Replacements.{backslash, line_break}

-- A byte in front of the first command.
abbrev pub with_first : ℕ → List Bytes → List Bytes
with_first b [] = (b ∷ []) ∷ []
with_first b (c ∷ cs) = (b ∷ c) ∷ cs

-- A `\` with byte 10 right behind it cuts, whatever stands in front of it; the two bytes are dropped.
unfoldable pub commands_in : Bytes → List Bytes
commands_in [] = [] ∷ []
commands_in (b ∷ []) = (b ∷ []) ∷ []
commands_in (b ∷ c ∷ bs) =
    elim (b == backslash && c == line_break)
    [ true ↦ [] ∷ commands_in bs | false ↦ with_first b (commands_in (c ∷ bs)) ]

-- A list of no bytes stands for `p`.
abbrev pub or_print : Bytes → Bytes
or_print [] = 112 ∷ []
or_print (b ∷ bs) = b ∷ bs

-- The commands of a list. None of them is read before its turn comes.
unfoldable pub commands_of : Bytes → List Bytes
commands_of list = commands_in (or_print list)
