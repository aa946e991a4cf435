-- What a chooser's pattern was read from.
use Rattle.std.specs.Prelude.{◌≡◌, Result}
use Rattle.patterns.specs.declared.fault.PatternFault.{PatternFault}
use Rattle.patterns.specs.declared.pattern.Pattern.{Pattern}
use Rattle.patterns.specs.Reading.{pattern_of}
use Rattle.patterns.specs.View.{viewed}
use Rattle.command.specs.declared.said.Chooser.{Chooser as ChooserCode}
use Rattle.command.specs.Said.{Sought, Chooser, matching_lines, lacking_lines}
use Rattle.command.specs.View.{chooser_view}

-- what a chooser seeks in a line
abbrev pub sought_by : Chooser → Sought
sought_by (matching_lines s) = s
sought_by (lacking_lines s) = s

-- a pattern that was read from a chooser's part, or the fault of that part
abbrev pub ReadFor : Result Pattern PatternFault → ChooserCode → Type 0
ReadFor r c = viewed r ≡ pattern_of (sought_by (chooser_view c)).delimiter (sought_by (chooser_view c)).part
