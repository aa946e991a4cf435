-- What making a guard answers: the guard over that shelf with that prefix, or a refusal that hands the shelf back.
use Rattle.std.specs.Prelude.{◌≡◌, ℕ, true, false, List, Ok, Err, Result}
use Rattle.shelf.specs.Label.{is_label}
use Rattle.shelf.specs.Text.{text_of}
use Rattle.guard.specs.declared.fault.GuardFault.TheVariants.{BadPrefix}
use Rattle.guard.specs.declared.fault.GuardRefused.{GuardRefused}
use Rattle.guard.specs.declared.guard.Guard.{Guard}

abbrev pub Made : {S : Type 0} → S → List ℕ → Result (Guard S) (GuardRefused S) → Type 0
Made below prefix (Ok g) =
    (is_label prefix ≡ true) × (g.below ≡ below) × (text_of g.prefix ≡ prefix)
Made below prefix (Err e) =
    (is_label prefix ≡ false) × (e.below ≡ below) × (e.fault ≡ BadPrefix)
