-- The marks that a line can bear, the letters `a` to `z`, and their bits in a line's tag.
use Rattle.std.specs.Prelude.{ℕ, ◌-◌, ◌%◌, Bool, cond, ◌&&◌, Some, None, Option, nat_le}

-- A mark, by its letter.
abbrev pub Mark : Type 0
Mark = ℕ

abbrev pub is_letter : ℕ → Bool
is_letter b = nat_le 97 b && nat_le b 122

-- The mark that a byte names.
abbrev pub mark_of : ℕ → Option Mark
mark_of b = cond (is_letter b) (Some b) None

-- Bit 0 for `a` to bit 25 for `z`. It is one of the 26 whatever the byte, so that it can never be another bit of a tag.
abbrev pub bit_of : Mark → ℕ
bit_of m = (m - 97) % 26
