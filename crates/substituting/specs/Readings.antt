-- A pattern as it is read from the sought part of a substitution, and how often it is sought.
use Rattle.std.specs.Prelude.{◌≡◌, ℕ, ◌+◌, Bool, cond, Option}
use Rattle.std.specs.Option.{option_map}
use Rattle.std.specs.Result.{result_ok}
use Rattle.patterns.specs.declared.pattern.Pattern.{Pattern}
use Rattle.patterns.specs.Reading.{pattern_of}
use Rattle.patterns.specs.View.{meaning}
use Rattle.command.specs.declared.said.Sought.{Sought}

-- the pattern that the sought part spells, none where it spells none
abbrev pub ReadFrom : Option Pattern → Sought → Type 0
ReadFrom p s = option_map meaning p ≡ result_ok (pattern_of s.delimiter s.part.now)

-- how many searches a substitution may take in a text of n bytes, of every match or of the first one
abbrev pub searches_of : Bool → ℕ → ℕ
searches_of all n = cond all (2 + n) 1
