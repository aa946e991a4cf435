-- What a substitution makes of a text.
use Rattle.std.specs.Prelude.{ℕ, true, false, List, [], ◌∷◌, map}
use Rattle.lines.specs.Store.{Store}
use Rattle.command.specs.declared.said.Substitution.{Substitution as SubstitutionCode}
use Rattle.command.specs.Said.{Substitution}
use Rattle.command.specs.View.{substitution_view}
use Rattle.ranges.specs.declared.range.Range.{Range}
use Rattle.ranges.specs.Spans.{span_of}
use Rattle.rules.specs.Effects.{rewritten}
use Rattle.rules.specs.Lines.{Line, created, seen_lines}
use Rattle.rules.specs.Patterns.{matches, substituted}
use Rattle.rules.specs.Pieces.{Piece, old, news, placed}

abbrev pub pieces_of : SubstitutionCode → Range → Store → List Piece
pieces_of s range t = rewritten (substitution_view s) (span_of range) 1 (seen_lines t)

abbrev pub after : SubstitutionCode → Range → Store → List Line
after s range t = placed created (seen_lines t) (pieces_of s range t)

-- the pieces that line n becomes, if it is in the range
abbrev pub pieces_for : Substitution → ℕ → List ℕ → List Piece
pieces_for s n t = elim (matches s.sought t) [ true ↦ news (substituted s t) | false ↦ old n ∷ [] ]

-- and the lines
abbrev pub lines_for : Substitution → Line → List Line
lines_for s l = elim (matches s.sought l.text) [ true ↦ map created (substituted s l.text) | false ↦ l ∷ [] ]
