-- A pattern as a command has it, by its delimiter and its bytes: whether a text matches, and what a substitution makes of a text.
use Rattle.std.specs.Prelude.{ℕ, zero, suc, ◌+◌, ◌-◌, Bool, true, false, cond, List, [], ◌∷◌, ◌++◌, length, take, drop, Some, None, Ok, Err, Option, Result, ◌==◌}
use Rattle.patterns.specs.declared.fault.PatternFault.{PatternFault}
use Rattle.patterns.specs.Items.{Pattern}
use Rattle.patterns.specs.Reading.{pattern_of}
use Rattle.matching.specs.declared.answer.Match.{Match}
use Rattle.matching.specs.Matching.{match_from}
use Rattle.command.specs.Said.{Sought, Substitution}
use Rattle.command.specs.Replacements.{Bit, the_match, the_byte, the_break, bits_of}

abbrev pub found_in : List ℕ → Result Pattern PatternFault → ℕ → Option Match
found_in t (Err f) from = None
found_in t (Ok p) from = match_from p t from

-- the match from a place of a text; a part that is no pattern has none
unfoldable pub found : Sought → List ℕ → ℕ → Option Match
found s t from = found_in t (pattern_of s.delimiter s.part) from

abbrev pub is_there : Option Match → Bool
is_there None = false
is_there (Some m) = true

abbrev pub matches : Sought → List ℕ → Bool
matches s t = is_there (found s t 0)

-- the matches that count, from the left: after one the search goes on at its end, after an empty one a byte later; an
-- empty match at the end of the last one does not count
abbrev pub empty_again : Option ℕ → ℕ → Bool
empty_again None at = false
empty_again (Some e) at = e == at

abbrev pub matches_from : ℕ → Sought → List ℕ → ℕ → Option ℕ → List Match
matches_from zero s t from last = []
matches_from (suc n) s t from last =
    elim (found s t from) [
      | None ↦ []
      | Some m ↦
          elim (m.start == m.end) [
            | false ↦ m ∷ matches_from n s t m.end (Some m.end)
            | true ↦ elim (empty_again last m.start) [
              | false ↦ m ∷ matches_from n s t (suc m.start) (Some m.start)
              | true ↦ matches_from n s t (suc m.start) (Some m.start)
            ]
          ]
    ]

abbrev pub all_matches : Sought → List ℕ → List Match
all_matches s t = matches_from (2 + length t) s t 0 None

-- the lines that a text becomes

abbrev pub in_front : List ℕ → List (List ℕ) → List (List ℕ)
in_front a [] = a ∷ []
in_front a (l ∷ ls) = (a ++ l) ∷ ls

-- a replacement filled in for one match, in front of what follows
abbrev pub filled : List Bit → List ℕ → List (List ℕ) → List (List ℕ)
filled [] m rest = rest
filled (the_match ∷ r) m rest = in_front m (filled r m rest)
filled (the_byte b ∷ r) m rest = in_front (b ∷ []) (filled r m rest)
filled (the_break ∷ r) m rest = [] ∷ filled r m rest

abbrev pub replaced : List Bit → List ℕ → ℕ → List Match → List (List ℕ)
replaced r t from [] = drop from t ∷ []
replaced r t from (m ∷ ms) =
    in_front (take (m.start - from) (drop from t))
    (filled r (take (m.end - m.start) (drop m.start t)) (replaced r t m.end ms))

-- the lines that a text with a match becomes: its first match is replaced, or every one
unfoldable pub substituted : Substitution → List ℕ → List (List ℕ)
substituted s t =
    replaced (bits_of s.replacement) t 0 (cond s.all (all_matches s.sought t) (take 1 (all_matches s.sought t)))
