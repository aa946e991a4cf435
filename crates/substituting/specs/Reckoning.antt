-- Pieces of a text reckoned one after another. Numbers of lines that no store holds are all answered as 4,097.
use Rattle.std.specs.Prelude.{◌≡◌, ℕ, ◌+◌, ◌≤◌, min, true, false, ◌&&◌, List, [], ◌∷◌, length, Some, None, Option, IfSome}
use Rattle.arrayvec.specs.ArrayVec.{ArrayVec}
use Rattle.lines.specs.Line.{fitting, all_fit}
use Rattle.rules.specs.Doing.{texts_of}
use Rattle.rules.specs.Lines.{Line, picked}
use Rattle.rules.specs.Pieces.{Piece, old, new}
use Rattle.rules.specs.Printing.{printed}
use Rattle.substituting.specs.declared.reckoning.Created.{Created}
use Rattle.substituting.specs.declared.reckoning.Reckoned.{Reckoned}
use Rattle.substituting.specs.Spelling.{line_of}

abbrev pub one_more : ℕ → ℕ
one_more n = min (n + 1) 4097

-- the number of the last line created, 0 where none is
abbrev pub number_of : Option Created → ℕ
number_of None = 0
number_of (Some line) = line.number

abbrev pub reckoned_old : Reckoned → Reckoned
reckoned_old r = record { count = one_more r.count; fits = r.fits; last = r.last }

-- a line that is spelled out, or one that is too long
abbrev pub reckoned_line : Reckoned → Option (ArrayVec ℕ) → Reckoned
reckoned_line r (Some line) = record {
  count = one_more r.count;
  fits = r.fits && fitting line.items;
  last = Some (record { number = one_more r.count; size = length line.items + 1 });
}
reckoned_line r None = record {
  count = one_more r.count;
  fits = r.fits && false;
  last = Some (record { number = one_more r.count; size = 0 });
}

abbrev pub reckoned_pieces : Reckoned → List Piece → Reckoned
reckoned_pieces r [] = r
reckoned_pieces r (old n ∷ ps) = reckoned_pieces (reckoned_old r) ps
reckoned_pieces r (new t ∷ ps) = reckoned_pieces (reckoned_line r (line_of t)) ps

-- nothing reckoned yet
abbrev pub none_reckoned : Reckoned
none_reckoned = record { count = 0; fits = true; last = None }

-- what was reckoned is right of a text of these lines, where line `best` is the last one created, or none is and `best` is 0
pub record Right (lines : List Line) (best : ℕ) (r : Reckoned) : Type 0 where
  pub count : r.count ≡ min (length lines) 4097
  pub fits : r.fits ≡ all_fit (texts_of lines)
  pub last : number_of r.last ≡ min best 4097
  pub some : IfSome r.last (λ line. 1 ≤ line.number)
  pub within : best ≤ length lines
  pub size : r.fits ≡ true → r.count ≤ 4096 → IfSome r.last (λ line. line.size ≡ length (printed (picked lines line.number)))
