-- What editing leaves of a store: lines taken away, put in, exchanged or moved.
use Rattle.std.specs.Prelude.{ℕ, suc, ◌-◌, true, false, List, [], ◌++◌, take, drop, nat_lt, slice_set}
use Rattle.std.specs.List.{between}
use Rattle.lines.specs.Line.{Line}
use Rattle.lines.specs.Store.{Store, with_lines, inserted}
use Rattle.rules.specs.Addresses.{Range as Span}
use Rattle.rules.specs.Pieces.{Piece, stay}

-- the store without the lines from a to b
abbrev pub without : Store → ℕ → ℕ → Store
without s a b = with_lines s (take (a - 1) s.lines ++ drop b s.lines)

abbrev pub emptied : Store → Store
emptied s = with_lines s []

-- a line more behind line n
abbrev pub with_line : Store → ℕ → Line → Store
with_line s n l = with_lines s (inserted s.lines n l)

-- line n replaced
abbrev pub with_set : Store → ℕ → Line → Store
with_set s n l = with_lines s (slice_set s.lines (n - 1) l)

-- its first n lines are those of the other
abbrev pub fronted : Store → ℕ → Store → Store
fronted s n o = with_lines s (take n o.lines ++ drop n s.lines)

-- the lines behind line a up to line b, and those behind line b up to line c, exchange their places
abbrev pub swapped : {L : Type 0} → ℕ → ℕ → ℕ → List L → List L
swapped a b c ls = take a ls ++ (between b c ls ++ (between a b ls ++ drop c ls))

abbrev pub with_swapped : Store → ℕ → ℕ → ℕ → Store
with_swapped s a b c = with_lines s (swapped a b c s.lines)

-- of n lines in all the range goes behind line t
abbrev pub moved_pieces : ℕ → Span → ℕ → List Piece
moved_pieces n r t =
    elim (nat_lt t r.first) [
      | true ↦ stay 1 t ++ (stay r.first r.final ++ (stay (suc t) (r.first - 1) ++ stay (suc r.final) n))
      | false ↦ stay 1 (r.first - 1) ++ (stay (suc r.final) t ++ (stay r.first r.final ++ stay (suc t) n))
    ]
