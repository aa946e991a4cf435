-- Places in a text.
use Rattle.std.specs.Prelude.{ℕ, ◌≤◌}
use Rattle.substituting.specs.declared.cursor.Cursor.{Cursor}

-- a cursor's place is in a text of n bytes, and not behind the one from which a match is sought
abbrev pub Placed : ℕ → Cursor → Type 0
Placed n c = (c.at ≤ n) × (c.at ≤ c.from)
