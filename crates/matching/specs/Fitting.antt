-- Which runs of bytes fit: those that can be cut into one piece per item, in order.
use Rattle.std.specs.Prelude.{◌≡◌, ℕ, ◌≤◌, true, ◌⊎◌, List, [], ◌∷◌, ◌++◌, length}
use Rattle.std.specs.List.{between}
use Rattle.patterns.specs.Sets.{Set, has}
use Rattle.patterns.specs.Items.{Bytes, Item, Pattern}

-- Every byte of a piece belongs to the set.
abbrev pub Within : Set → Bytes → Type 0
Within s [] = Unit {0}
Within s (b ∷ bs) = (has s b ≡ true) × Within s bs

-- A piece for an item: of one byte, or of any length if the item is starred, and within the set.
abbrev pub Piece : Item → Bytes → Type 0
Piece i piece = ((i.starred ≡ true) ⊎ (length piece ≡ 1)) × Within i.set piece

-- One piece per item, in order.
abbrev pub Pieces : List Item → List Bytes → Type 0
Pieces [] [] = Unit {0}
Pieces [] (p ∷ ps) = ⊥
Pieces (i ∷ is) [] = ⊥
Pieces (i ∷ is) (p ∷ ps) = Piece i p × Pieces is ps

abbrev pub joined : List Bytes → Bytes
joined [] = []
joined (p ∷ ps) = p ++ joined ps

-- The run can be cut.
abbrev pub Fits : List Item → Bytes → Type 0
Fits items run = (pieces : List Bytes) × (run ≡ joined pieces) × Pieces items pieces

-- The bytes of a line from place `start` up to place `end` fit a pattern.
pub record FitsAt (p : Pattern) (line : Bytes) (start end : ℕ) : Type 0 where
  pub forward : start ≤ end
  pub inside : end ≤ length line
  pub front : p.front ≡ true → start ≡ 0
  pub back : p.back ≡ true → end ≡ length line
  pub fits : Fits p.items (between start end line)
