-- How a part between delimiters is cut, and how a pattern is found by its delimiter and its part.
use Rattle.std.specs.Prelude.{ℕ, Bool, true, false, not, ◌&&◌, ◌||◌, [], ◌∷◌, is_ok, Ok, Err, ◌==◌}
use Rattle.command.specs.declared.fault.Fault.TheVariants.{BadPattern}
use Rattle.command.specs.Said.{Bytes, Sought}
use Rattle.patterns.specs.Reading.{pattern_of}
use Rattle.reading.specs.Read.{Part, ◌>>=◌, when}

abbrev pub space : ℕ
space = 32

abbrev pub backslash : ℕ
backslash = 92

abbrev pub line_break : ℕ
line_break = 10

-- The part up to a delimiter that is not `taken`: a `\` takes the byte behind it along, whatever that is.
unfoldable pub cut_at : ℕ → Bool → Bytes → Part Bytes
cut_at d taken [] = Err BadPattern
cut_at d taken (b ∷ bs) =
    elim (b == d && not taken) [
      | true ↦ Ok ([], bs)
      | false ↦ cut_at d (b == backslash && not taken) bs >>= λ r. Ok (b ∷ r.0, r.1)
    ]

abbrev pub part_at : ℕ → Bytes → Part Bytes
part_at d bs = cut_at d false bs

unfoldable pub is_pattern : ℕ → Bytes → Bool
is_pattern d part = is_ok (pattern_of d part)

-- A part that is a pattern. It is cut first, and read afterwards.
unfoldable pub pattern_at : ℕ → Bytes → Part Bytes
pattern_at d bs = part_at d bs >>= λ r. when (is_pattern d r.0) BadPattern (Ok r)

-- Any byte delimits but a space, a `\` and a line break.
abbrev pub is_delimiter : ℕ → Bool
is_delimiter b = not (b == space || b == backslash || b == line_break)

-- A delimiter, and a pattern up to the next.
unfoldable pub sought_at : Bytes → Part Sought
sought_at [] = Err BadPattern
sought_at (d ∷ bs) =
    when (is_delimiter d) BadPattern (pattern_at d bs >>= λ r. Ok (record { delimiter = d; part = r.0 }, r.1))
