-- Which numbers make a range of a text of so many lines.
use Rattle.std.specs.Prelude.{ℕ, Bool, ◌&&◌, nat_le}

abbrev pub is_range : ℕ → ℕ → ℕ → Bool
is_range first last count = nat_le 1 first && nat_le first last && nat_le last count
