-- The lines that links and slots mean. Number 0 stands in front of the lines in the chain, number 1 behind them and in
-- front of the free slots, and number i + 2 is slot i.
use Rattle.std.specs.Prelude.{ℕ, ◌-◌, List, map, take, drop, slice_index_or}
use Rattle.lines.specs.Line.{Line, blank}
use Rattle.chain_store.specs.Chain.{chain}

-- the numbers of the lines, in order
abbrev pub line_numbers : List ℕ → ℕ → List ℕ
line_numbers links count = take count (drop 1 (chain links))

-- the line in the slot of a number, where each slot's line is known
abbrev pub line_in : List Line → ℕ → Line
line_in held number = slice_index_or held (number - 2) blank

-- the lines in the slots that the chain goes through first
abbrev pub lines_along : List ℕ → List Line → ℕ → List Line
lines_along links held count = map (line_in held) (line_numbers links count)
