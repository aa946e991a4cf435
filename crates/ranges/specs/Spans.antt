-- A range as the rules speak of it, by its first and its final line.
use Rattle.std.specs.Prelude.{◌≡◌, ℕ, Some, None, Option}
use Rattle.rules.specs.Addresses.{Range as Span, to}
use Rattle.ranges.specs.declared.range.Range.{Range}

abbrev pub span_of : Range → Span
span_of r = to r.first r.last

-- no range stands for the lines of an empty text
abbrev pub span_or : Option Range → Span
span_or None = to 1 0
span_or (Some r) = span_of r

-- a range, where there is one, is of a text of so many lines; there is none where the text is empty
abbrev pub RangesOver : ℕ → Option Range → Type 0
RangesOver count None = count ≡ 0
RangesOver count (Some r) = r.count ≡ count
