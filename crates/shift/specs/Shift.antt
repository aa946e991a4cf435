-- Moving a run of elements within a list: what stands where afterwards, and when the run is outside the list.
use Rattle.std.specs.Prelude.{ℕ, ◌+◌, Bool, cond, ◌&&◌, List, ◌++◌, length, take, drop, Ok, Err, Result, nat_le}
use Rattle.shift.specs.declared.ShiftFault.{ShiftFault}
use Rattle.shift.specs.declared.ShiftFault.TheVariants.{Outside}

-- the run of n elements at `from` stands at `to`, as if by way of a copy; all else is as it was
abbrev pub shifted : {X : Type 0} → List X → ℕ → ℕ → ℕ → List X
shifted xs from to n = take to xs ++ (take n (drop from xs) ++ drop (to + n) xs)

-- both ends of the move lie within the list
abbrev pub inside : {X : Type 0} → List X → ℕ → ℕ → ℕ → Bool
inside xs from to n = nat_le (from + n) (length xs) && nat_le (to + n) (length xs)

abbrev pub shift_answer : {X : Type 0} → List X → ℕ → ℕ → ℕ → Result (Unit {0}) ShiftFault
shift_answer xs from to n = cond (inside xs from to n) (Ok tt) (Err Outside)

abbrev pub shift_after : {X : Type 0} → List X → ℕ → ℕ → ℕ → List X
shift_after xs from to n = cond (inside xs from to n) (shifted xs from to n) xs
