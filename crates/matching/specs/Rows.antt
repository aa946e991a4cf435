-- Rows of places, by which a line is searched: the flag of place p says whether it is reached, that is, whether
-- the bytes from the start up to p can be cut into pieces for the items so far.
use Rattle.std.specs.Prelude.{◌≡◌, ℕ, zero, suc, ◌+◌, ◌-◌, ◌<◌, ◌≤◌, Bool, true, false, ◌&&◌, ◌||◌, List, length, drop, Option, nat_lt, slice_index, slice_index_or}
use Rattle.std.specs.Option.{option_map}
use Rattle.patterns.specs.Sets.{Set, has}
use Rattle.patterns.specs.Items.{Bytes, Item}
use Rattle.matching.specs.declared.reach.Reach.{Reach}
use Rattle.matching.specs.Matching.{longest_run}

abbrev pub reached : List Bool → ℕ → Bool
reached row p = slice_index_or row p false

abbrev pub byte_in : Set → Bytes → ℕ → Bool
byte_in s line p = nat_lt p (length line) && has s (slice_index line p)

-- One item more reaches a place by a byte of its set, from a place that was reached or, if it is starred, that it has reached so itself.
abbrev pub by_byte : Item → Bytes → List Bool → ℕ → Bool
by_byte i line row zero = false
by_byte i line row (suc p) = ((i.starred && by_byte i line row p) || reached row p) && byte_in i.set line p

-- A starred item may also take no byte.
abbrev pub taken : Item → Bytes → List Bool → ℕ → Bool
taken i line row p = by_byte i line row p || (i.starred && reached row p)

-- The places reached: from `low` on and below `end`, which stands right behind the highest. If they are as many, all of those are reached.
pub record Spans (row : List Bool) (r : Reach) : Type 0 where
  pub inside : (p : ℕ) → reached row p ≡ true → (r.low ≤ p) × (p < r.end)
  pub top : reached row (r.end - 1) ≡ true
  pub filled : r.low + r.count ≡ r.end → (p : ℕ) → r.low ≤ p → p < r.end → reached row p ≡ true

abbrev pub NoneReached : List Bool → Type 0
NoneReached row = (p : ℕ) → reached row p ≡ false

-- The longest run at a start, by its end.
abbrev pub longest_end : List Item → Bool → Bytes → ℕ → Option ℕ
longest_end items back line start = option_map (λ size. start + size) (longest_run items back (drop start line))
