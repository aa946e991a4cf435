-- The bytes that a label holds.
use Rattle.std.specs.Prelude.{ℕ, List}
use Rattle.short_text.specs.Held.{held}
use Rattle.shelf.specs.declared.label.Label.{Label}

abbrev pub text_of : Label → List ℕ
text_of l = held l.short
