-- A text as a file, a file of a shelf, and what writing one comes to.
use Rattle.std.specs.Prelude.{ℕ, List, Ok, Err, Option}
use Rattle.lines.specs.Store.{Store}
use Rattle.shelf.specs.Shelf.{Shelf, contents_at}
use Rattle.reading.specs.Read.{Read}
use Rattle.rules.specs.Lines.{from_to, seen_lines}
use Rattle.rules.specs.Printing.{printed}
use Rattle.ranges.specs.declared.range.Range.{Range}
use Rattle.ranges.specs.Spans.{span_or}

-- what a range of a text is as a file: each line with a line break behind it
abbrev pub contents_from : Option Range → Store → List ℕ
contents_from r t = printed (from_to (span_or r).first (span_or r).final (seen_lines t))

-- what the file of a number holds
abbrev pub file_in : Shelf → ℕ → List ℕ
file_in s i = contents_at s.files i

-- whether a shelf took what it was given, and the fault if it did not
abbrev pub answer_of : Read Shelf → Read (Unit {0})
answer_of (Ok v) = Ok tt
answer_of (Err f) = Err f

-- the shelf afterwards, which is as it was if it refused
abbrev pub shelf_after : Shelf → Read Shelf → Shelf
shelf_after s (Ok v) = v
shelf_after s (Err f) = s
