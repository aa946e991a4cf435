use Rattle.std.proofs.Common.{◌≡◌, ◌≤◌, drop}
use Rattle.filing.specs.Contents.{file_in}
use Rattle.filing.specs.Counting.{counted, uncounted}
use Rattle.filing.proofs.reading_files.count_file.Given as goal

-- what is left is counted on
abbrev pub invariant-loop-place : goal.invariant-loop-place
invariant-loop-place g l =
    let bytes = file_in (g.S.Shelf.meaning l.file.shelf.now) l.file.file in
    (counted l.count (drop l.place bytes) ≡ counted uncounted bytes)
    × (l.count.ended ≤ l.place)
    × (l.count.pending ≤ l.place)
