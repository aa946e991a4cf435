-- Whether line n of a store bears mark k.
use Rattle.std.specs.Prelude.{ℕ, Bool}
use Rattle.lines.specs.Store.{Store, line_at}
use Rattle.rules.specs.Lines.{seen, has_mark}

unfoldable pub bearing : ℕ → Store → ℕ → Bool
bearing k s n = has_mark k (seen (line_at s n))
