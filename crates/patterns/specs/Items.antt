-- What a pattern means: an optional front anchor, items in order, an optional end anchor.
use Rattle.std.specs.Prelude.{ℕ, Bool, List}
use Rattle.patterns.specs.Sets.{Set}

abbrev pub Bytes : Type 0
Bytes = List ℕ

-- One byte of a set or, if starred, any number of them.
pub record Item : Type 0 where
  pub set : Set
  pub starred : Bool

pub record Pattern : Type 0 where
  pub front : Bool
  pub items : List Item
  pub back : Bool
