-- What a search of a short line answers is the match of the rules.
use Rattle.std.proofs.Common.{◌≡◌, ℕ, ◌≤◌, ltb, List, length, Some, None, Ok, Err, Option, Result, ap, ◌∙◌, refl}
use Rattle.std.proofs.lemmas.Bool.{le-ltb, cond-false}
use Rattle.std.specs.Option.{option_map}
use Rattle.std.specs.Result.{result_ok, result_unwrap_or}
use Rattle.patterns.specs.declared.fault.PatternFault.{PatternFault}
use Rattle.patterns.specs.declared.pattern.Pattern.{Pattern as PatternCode}
use Rattle.patterns.specs.Items.{Pattern}
use Rattle.patterns.specs.Reading.{pattern_of}
use Rattle.patterns.specs.View.{meaning}
use Rattle.matching.specs.declared.answer.Match.{Match}
use Rattle.matching.specs.declared.answer.MatchFault.{MatchFault}
use Rattle.matching.specs.declared.answer.MatchFault.TheVariants.{LongLine}
use Rattle.matching.specs.Matching.{match_from, find_answer}
use Rattle.command.specs.declared.said.Sought.{Sought as SoughtCode}
use Rattle.command.specs.View.{sought_view}
use Rattle.rules.specs.Patterns.{found, found_in}
use Rattle.substituting.specs.Readings.{ReadFrom}

pub answered : (p : Pattern) (t : List ℕ) (from : ℕ) (r : Result (Option Match) MatchFault) → length t ≤ 255
    → r ≡ find_answer p t from → result_unwrap_or r None ≡ match_from p t from
answered p t from r short e =
    ap (λ (x : Result (Option Match) MatchFault). result_unwrap_or x None)
    (e ∙ cond-false (ltb 255 (length t)) (Err LongLine) (Ok (match_from p t from)) (le-ltb 255 (length t) short))

-- the match of a pattern, if there is one
abbrev pub found_by : Option Pattern → List ℕ → ℕ → Option Match
found_by None t from = None
found_by (Some p) t from = match_from p t from

found_read : (r : Result Pattern PatternFault) (t : List ℕ) (from : ℕ) → found_by (result_ok r) t from ≡ found_in t r from
found_read (Ok p) t from = refl
found_read (Err f) t from = refl

pub found_of : (o : Option PatternCode) (s : SoughtCode) (t : List ℕ) (from : ℕ) → ReadFrom o s
    → found_by (option_map meaning o) t from ≡ found (sought_view s) t from
unfolding found
found_of o s t from read = ap (λ (p : Option Pattern). found_by p t from) read ∙ found_read (pattern_of s.delimiter s.part.now) t from
