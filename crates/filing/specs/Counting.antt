-- The lines of bytes, counted byte by byte, and where the first of them ends.
use Rattle.std.specs.Prelude.{ℕ, suc, ◌+◌, Bool, true, cond, ◌&&◌, List, [], ◌∷◌, take, ◌==◌, nat_le, nat_lt}
use Rattle.filing.specs.declared.count.Count.{Count}

-- no bytes yet
abbrev pub uncounted : Count
uncounted = record { ended = 0; pending = 0; fits = true }

-- a byte more: a line break ends a line
abbrev pub byte_counted : Count → ℕ → Count
byte_counted c b =
    cond (b == 10)
    (record { ended = c.ended + 1; pending = 0; fits = c.fits && nat_le c.pending 255 })
    (record { ended = c.ended; pending = c.pending + 1; fits = c.fits })

abbrev pub counted : Count → List ℕ → Count
counted c [] = c
counted c (b ∷ bs) = counted (byte_counted c b) bs

-- what stands behind the last line break is a line too, unless it is empty
abbrev pub lines_of : Count → ℕ
lines_of c = c.ended + cond (nat_lt 0 c.pending) 1 0

abbrev pub fits_of : Count → Bool
fits_of c = c.fits && nat_le c.pending 255

-- how many bytes stand in front of the first line break
abbrev pub line_length : List ℕ → ℕ
line_length [] = 0
line_length (b ∷ bs) = cond (b == 10) 0 (suc (line_length bs))

-- the first line of bytes, without its break
abbrev pub first_line : List ℕ → List ℕ
first_line bs = take (line_length bs) bs
