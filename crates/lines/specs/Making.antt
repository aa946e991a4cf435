-- What making a line store answers. Whether memory suffices is the one thing in which two correct stores may differ.
use Rattle.std.specs.Prelude.{ℕ, Bool, ◌&&◌, Result, nat_le}
use Rattle.making.specs.declared.MakeFault.{MakeFault}
use Rattle.making.specs.Making.{MadeEmpty}
use Rattle.lines.specs.Store.{Store, empty_store}

abbrev pub may_hold : ℕ → Bool
may_hold capacity = nat_le 1 capacity && nat_le capacity 4096

-- an empty store of that capacity, or a refusal that says what is wrong
abbrev pub Made : {S : Type 0} → (S → Store) → ℕ → Result S MakeFault → Type 0
Made meaning capacity r = MadeEmpty may_hold empty_store meaning capacity r
