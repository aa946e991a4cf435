-- The store that a chain store means, and where a line of it lies.
use Rattle.std.specs.Prelude.{◌≡◌, ℕ, ◌-◌, ◌<◌, true, cond, length, Some, None, vec_items, Option, slice_index, slice_index_or}
use Rattle.lines.specs.Line.{Line, blank}
use Rattle.lines.specs.Store.{Store, present, line_at}
use Rattle.chain_store.specs.declared.store.ChainStore.{ChainStore}
use Rattle.chain_store.specs.Chain.{chain}
use Rattle.chain_store.specs.Lines.{lines_along}
use Rattle.chain_store.specs.Slot.{held}

abbrev pub meaning_of : ChainStore → Store
meaning_of s = record {
  lines = lines_along (vec_items s.links) (held (vec_items s.slots)) s.count;
  capacity = length (vec_items s.slots);
}

-- line n, if there is one
abbrev pub line_if : Store → ℕ → Option Line
line_if s n = cond (present s n) (Some (line_at s n)) None

-- line n is there, and slot i holds it
pub record Found (s : ChainStore) (n i : ℕ) : Type 0 where
  pub there : present (meaning_of s) n ≡ true
  pub here : i ≡ slice_index (chain (vec_items s.links)) n - 2
  pub inside : i < length (vec_items s.slots)
  pub line : line_at (meaning_of s) n ≡ slice_index_or (held (vec_items s.slots)) i blank
