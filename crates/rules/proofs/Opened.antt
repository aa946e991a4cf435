-- All definitions open at once, for proofs that compute.
use Rattle.reading.specs.Addresses.{digit_at, number_at, offsets_at, mark_at, base_at, address_at, second_at, after_first, without_first, addresses_at}
use Rattle.reading.specs.Commands.{alone, marking, moving, flags_of, substituting, choosing, editing, writing, rule_for, command_at, said_in}
use Rattle.reading.specs.Names.{name_of, name_at}
use Rattle.reading.specs.Parts.{cut_at, is_pattern, pattern_at, sought_at}
use Rattle.command.specs.Lists.{commands_in, commands_of}
use Rattle.command.specs.Replacements.{bits_of}
use Rattle.patterns.specs.Reading.{pattern_of}
use Rattle.patterns.specs.Sets.{those}
use Rattle.matching.specs.Matching.{match_from}
use Rattle.rules.specs.Commands.{globally, command_line}
use Rattle.rules.specs.Doing.{perform}
use Rattle.rules.specs.Effects.{effect_of}
use Rattle.rules.specs.Giving.{entered, give}
use Rattle.rules.specs.Globals.{run_of}
use Rattle.rules.specs.Patterns.{found, substituted}
use Rattle.rules.specs.Runs.{given, kind_of}

unfoldable pub all-open : Unit {0}
unfolding digit_at number_at offsets_at mark_at base_at address_at second_at after_first without_first addresses_at alone marking moving flags_of substituting choosing editing writing rule_for command_at said_in name_of name_at cut_at is_pattern pattern_at sought_at commands_in commands_of bits_of pattern_of those match_from globally command_line perform effect_of entered give run_of found substituted given kind_of
all-open = tt
