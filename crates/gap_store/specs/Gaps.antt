-- A list with a gap in it: what it holds is what lies in front of the gap and behind it.
use Rattle.std.specs.Prelude.{ℕ, ◌+◌, ◌-◌, cond, List, ◌++◌, length, take, drop, nat_le}

abbrev pub held : {X : Type 0} → List X → ℕ → ℕ → List X
held xs front back = take front xs ++ drop back xs

-- a list with others written over it from a place on
abbrev pub overwritten : {X : Type 0} → List X → ℕ → List X → List X
overwritten xs at new = take at xs ++ (new ++ drop (at + length new) xs)

-- the place of what is held as the n-th: in front of the gap, or behind it
abbrev pub place : ℕ → ℕ → ℕ → ℕ
place f b n = cond (nat_le n f) (n - 1) (n - 1 - f + b)
