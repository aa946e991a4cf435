-- What a chooser says of a line, by the pattern that was read for it.
use Rattle.std.proofs.Common.{◌≡◌, ℕ, Bool, not, List, Result, ap}
use Rattle.patterns.specs.declared.fault.PatternFault.{PatternFault}
use Rattle.patterns.specs.declared.pattern.Pattern.{Pattern}
use Rattle.patterns.specs.View.{viewed}
use Rattle.command.specs.declared.said.Chooser.{Chooser}
use Rattle.command.specs.declared.said.Chooser.TheVariants.{Matching, Lacking}
use Rattle.command.specs.declared.said.Sought.{Sought}
use Rattle.command.specs.View.{chooser_view}
use Rattle.rules.specs.Globals.{holds}
use Rattle.rules.specs.Patterns.{found, found_in, is_there}
use Rattle.choosing.specs.Sought.{ReadFor}

-- whether a text has a match of what was read
abbrev pub hit : Result Pattern PatternFault → List ℕ → Bool
hit r t = is_there (found_in t (viewed r) 0)

module _ (r : Result Pattern PatternFault) (t : List ℕ) (s : Sought) where
  matching_holds : ReadFor r (Matching s) → hit r t ≡ holds (chooser_view (Matching s)) t
  unfolding found
  matching_holds e = ap (λ p. is_there (found_in t p 0)) e

  lacking_holds : ReadFor r (Lacking s) → not (hit r t) ≡ holds (chooser_view (Lacking s)) t
  unfolding found
  lacking_holds e = ap (λ p. not (is_there (found_in t p 0))) e

  pub holds_matching : (c : Chooser) → c ≡ Matching s → ReadFor r c → hit r t ≡ holds (chooser_view c) t
  holds_matching c is e = rw is (matching_holds (rw is at e))

  pub holds_lacking : (c : Chooser) → c ≡ Lacking s → ReadFor r c → not (hit r t) ≡ holds (chooser_view c) t
  holds_lacking c is e = rw is (lacking_holds (rw is at e))
