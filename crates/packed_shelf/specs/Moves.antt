-- How rows and bytes lie after a file is emptied or gets more bytes. The file is that of the row at p.
use Rattle.std.specs.Prelude.{ℕ, ◌+◌, ◌-◌, List, ◌++◌, map, length, take, drop}
use Rattle.shift.specs.Shift.{shifted}
use Rattle.packed_shelf.specs.declared.row.Row.{Row}
use Rattle.packed_shelf.specs.Rows.{total}

abbrev pub sized : ℕ → Row → Row
sized n r = record { number = r.number; name = r.name; size = n }

abbrev pub longer : ℕ → Row → Row
longer n r = sized (r.size + n) r

-- the row at p, as a list
abbrev pub row_at : List Row → ℕ → List Row
row_at rows p = take 1 (drop p rows)

-- where the file starts and ends, its bytes, and how many stand behind it
abbrev pub start_at : List Row → ℕ → ℕ
start_at rows p = total (take p rows)

abbrev pub end_at : List Row → ℕ → ℕ
end_at rows p = total (take (p + 1) rows)

abbrev pub bytes_at : List Row → ℕ → List ℕ → List ℕ
bytes_at rows p bytes = take (end_at rows p - start_at rows p) (drop (start_at rows p) bytes)

abbrev pub behind : List Row → ℕ → ℕ
behind rows p = total (drop (p + 1) rows)

-- its row becomes the last, and the bytes behind it close up
abbrev pub rows_emptied : List Row → ℕ → List Row
rows_emptied rows p = take p rows ++ (drop (p + 1) rows ++ map (sized 0) (row_at rows p))

abbrev pub bytes_emptied : List Row → ℕ → List ℕ → List ℕ
bytes_emptied rows p bytes = shifted bytes (end_at rows p) (start_at rows p) (behind rows p)

-- its row stays, and the bytes behind it make room
abbrev pub rows_lengthened : List Row → ℕ → ℕ → List Row
rows_lengthened rows p n = take p rows ++ (map (longer n) (row_at rows p) ++ drop (p + 1) rows)

abbrev pub bytes_lengthened : List Row → ℕ → List ℕ → List ℕ → List ℕ
bytes_lengthened rows p bytes more =
    take (end_at rows p) bytes
    ++ (more ++ (take (behind rows p) (drop (end_at rows p) bytes) ++ drop (total rows + length more) bytes))
