-- How the bytes of a replacement are read.
use Rattle.std.specs.Prelude.{ℕ, true, false, cond, List, [], ◌∷◌, ◌==◌}
use Rattle.command.specs.Said.{Bytes}

-- What a replacement is made of: the matched run, a byte, or a line break.
pub data Bit : Type 0 where
  the_match the_break : Bit
  the_byte : ℕ → Bit

abbrev pub ampersand : ℕ
ampersand = 38

abbrev pub backslash : ℕ
backslash = 92

abbrev pub line_break : ℕ
line_break = 10

abbrev pub plain_bit : ℕ → Bit
plain_bit b = cond (b == ampersand) the_match (the_byte b)

-- The byte behind a `\` is itself, but byte 10 is a break.
abbrev pub escaped_bit : ℕ → Bit
escaped_bit b = cond (b == line_break) the_break (the_byte b)

-- From the left. A `\` with nothing behind it is itself.
unfoldable pub bits_of : Bytes → List Bit
bits_of [] = []
bits_of (b ∷ []) = plain_bit b ∷ []
bits_of (b ∷ c ∷ bs) =
    elim (b == backslash) [ true ↦ escaped_bit c ∷ bits_of bs | false ↦ plain_bit b ∷ bits_of (c ∷ bs) ]
