-- What making a packed shelf answers. Whether memory suffices is the one thing that no rule tells.
use Rattle.std.specs.Prelude.{ℕ, Bool, Result, nat_le}
use Rattle.making.specs.declared.MakeFault.{MakeFault}
use Rattle.making.specs.Making.{MadeEmpty}
use Rattle.shelf.specs.Shelf.{Shelf, empty_shelf}

abbrev pub may_hold : ℕ → Bool
may_hold capacity = nat_le capacity 1048576

-- an empty shelf of that capacity, or a refusal that says what is wrong
abbrev pub Made : {S : Type 0} → (S → Shelf) → ℕ → Result S MakeFault → Type 0
Made meaning capacity r = MadeEmpty may_hold empty_shelf meaning capacity r
