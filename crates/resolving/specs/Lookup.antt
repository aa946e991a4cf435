-- Whether a line has a match of a pattern.
use Rattle.std.specs.Prelude.{ℕ, Bool, true, false}
use Rattle.patterns.specs.Items.{Pattern}
use Rattle.matching.specs.Matching.{match_from}
use Rattle.rules.specs.Lines.{Line}
use Rattle.rules.specs.Patterns.{is_there}

abbrev pub fits : Pattern → Line → Bool
fits p l = is_there (match_from p l.text 0)

-- the least line that is accepted, where 0 may be
abbrev pub least : Bool → ℕ
least true = 0
least false = 1
