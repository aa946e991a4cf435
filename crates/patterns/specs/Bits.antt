-- The set that four words of 64 bits hold: byte b is bit b % 64 of word b / 64.
use Rattle.std.specs.Prelude.{ℕ, ◌/◌, ◌%◌, ◌^◌, Bool, List, ◌==◌, slice_index}
use Rattle.patterns.specs.Sets.{Set, those}

abbrev pub bit_of : ℕ → ℕ → Bool
bit_of word k = word / 2 ^ k % 2 == 1

abbrev pub table_of : List ℕ → Set
table_of words = those (λ b. bit_of (slice_index words (b / 64)) (b % 64))
