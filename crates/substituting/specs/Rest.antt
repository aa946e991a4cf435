-- What is left of the lines that are being spelled out.
use Rattle.std.specs.Prelude.{ℕ, List, map, Option}
use Rattle.arrayvec.specs.ArrayVec.{ArrayVec}
use Rattle.command.specs.View.{substitution_view}
use Rattle.substituting.specs.declared.spelling.Spelling.{Spelling}
use Rattle.substituting.specs.Spelling.{line_of, lines_left}

abbrev pub lines_of : Spelling → List (List ℕ)
lines_of p = lines_left (substitution_view p.rule.now.substitution) p.text.bytes.now p.cursor

-- as they are spelled out, one after another
abbrev pub rest_of : Spelling → List (Option (ArrayVec ℕ))
rest_of p = map line_of (lines_of p)
