-- Sets of bytes, as tables: for each byte from 0 to 255, whether it belongs to the set.
use Rattle.std.specs.Prelude.{ℕ, Bool, true, false, not, ◌&&◌, ◌||◌, List, map, nat_eq, nat_le, slice_index_or}
use Rattle.std.specs.List.{range_with_len}

abbrev pub Set : Type 0
Set = List Bool

abbrev pub has : Set → ℕ → Bool
has s b = slice_index_or s b false

-- The bytes that pass a test.
unfoldable pub those : (ℕ → Bool) → Set
those test = map test (range_with_len 0 256)

abbrev pub no_bytes : Set
no_bytes = those (λ b. false)

abbrev pub every : Set
every = those (λ b. true)

abbrev pub just : ℕ → Set
just c = those (λ b. nat_eq b c)

-- A set, and the bytes from `low` to `high`.
abbrev pub with_span : ℕ → ℕ → Set → Set
with_span low high s = those (λ b. has s b || (nat_le low b && nat_le b high))

-- The bytes outside of a set.
abbrev pub others : Set → Set
others s = those (λ b. not (has s b))
