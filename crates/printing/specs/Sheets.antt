-- A sheet: the bytes that a command may print onto.
use Rattle.std.specs.Prelude.{ℕ, ◌+◌, List, ◌++◌, length, take, drop}

-- a sheet with bytes written at a place
abbrev pub written : List ℕ → ℕ → List ℕ → List ℕ
written s at out = take at s ++ (out ++ drop (at + length out) s)
