-- What a command makes of a text, in pieces: lines that stay, by their old numbers, and lines that are created.
use Rattle.std.specs.Prelude.{ℕ, zero, suc, ◌-◌, List, [], ◌∷◌, ◌++◌}
use Rattle.rules.specs.Lines.{picked}

pub data Piece : Type 0 where
  old : ℕ → Piece
  new : List ℕ → Piece

-- n lines that stay, from a number on
abbrev pub span : ℕ → ℕ → List Piece
span from zero = []
span from (suc n) = old from ∷ span (suc from) n

-- lines f to l stay, in order; none where l is in front of f
abbrev pub stay : ℕ → ℕ → List Piece
stay f l = span f (suc l - f)

abbrev pub news : List (List ℕ) → List Piece
news [] = []
news (t ∷ ts) = new t ∷ news ts

-- the text that the pieces make of some lines, whatever a line is made of
abbrev pub placed : {L : Type 0} → (List ℕ → L) → List L → List Piece → List L
placed make ls [] = []
placed make ls (old n ∷ ps) = picked ls n ++ placed make ls ps
placed make ls (new t ∷ ps) = make t ∷ placed make ls ps

-- the number of the last created line, 0 where there is none; n lines stand in front
abbrev pub last_new : ℕ → ℕ → List Piece → ℕ
last_new n best [] = best
last_new n best (old k ∷ ps) = last_new (suc n) best ps
last_new n best (new t ∷ ps) = last_new (suc n) (suc n) ps
