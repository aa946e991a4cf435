-- Addresses worked out: the line that each means, and the range or the one line that a command takes.
use Rattle.std.specs.Prelude.{ℕ, suc, ◌+◌, ◌-◌, Bool, ◌&&◌, ◌||◌, List, length, take, drop, Some, None, Ok, Option, nat_le}
use Rattle.command.specs.declared.fault.Fault.TheVariants.{OutsideText, NoMark, NoMatch}
use Rattle.command.specs.Marks.{bit_of}
use Rattle.reading.specs.Read.{Read, ◌>>=◌}
use Rattle.rules.specs.Checks.{◌>>◌, check, or_fault}
use Rattle.command.specs.Said.{Base, at_current, at_last, at_number, at_mark, at_match, Address, Addresses, no_address, one_address, two_addresses, Sought}
use Rattle.rules.specs.Lines.{Page, has_mark, first_where}
use Rattle.rules.specs.Patterns.{matches}

abbrev pub or_else : Option ℕ → Option ℕ → Option ℕ
or_else None b = b
or_else (Some a) b = Some a

-- the next line that matches: behind the current one, then round from the first, the current one last
abbrev pub next_match : Page → Sought → Option ℕ
next_match g s =
    or_else (first_where (λ l. matches s l.text) (suc g.current) (drop g.current g.lines))
    (first_where (λ l. matches s l.text) 1 (take g.current g.lines))

-- the delimiter of an address's pattern is always `/`
abbrev pub slashed : List ℕ → Sought
slashed part = record { delimiter = 47; part = part }

abbrev pub base_line : Page → Base → Read ℕ
base_line g at_current = Ok g.current
base_line g at_last = Ok (length g.lines)
base_line g (at_number n) = Ok n
base_line g (at_mark m) = or_fault NoMark (first_where (has_mark (bit_of m)) 1 g.lines)
base_line g (at_match part) = or_fault NoMatch (next_match g (slashed part))

-- only the final sum must lie from 0 to the last line
abbrev pub line_of : Page → Address → Read ℕ
line_of g a = do
  b ← base_line g a.base
  check (nat_le a.back (b + a.ahead) && nat_le ((b + a.ahead) - a.back) (length g.lines)) OutsideText
  Ok ((b + a.ahead) - a.back)

pub record Range : Type 0 where
  pub first : ℕ
  pub final : ℕ

abbrev pub to : ℕ → ℕ → Range
to f l = record { first = f; final = l }

-- each address worked out, from the left; without any, the default
abbrev pub both : Page → Addresses → Range → Read Range
both g no_address d = Ok d
both g (one_address a) d = do
  n ← line_of g a
  Ok (to n n)
both g (two_addresses a b) d = do
  m ← line_of g a
  n ← line_of g b
  Ok (to m n)

-- a range: not empty, and within the text
abbrev pub range_of : Page → Addresses → Range → Read Range
range_of g a d = do
  r ← both g a d
  check (nat_le 1 r.first && nat_le r.first r.final && nat_le r.final (length g.lines)) OutsideText
  Ok r

-- the range of `w`, `g` and `v`, which without addresses take an empty text too
abbrev pub whole_or : Page → Addresses → Read Range
whole_or g no_address = Ok (to 1 (length g.lines))
whole_or g (one_address a) = range_of g (one_address a) (to 1 1)
whole_or g (two_addresses a b) = range_of g (two_addresses a b) (to 1 1)

-- one line, where zero may be accepted; of two addresses the last counts
abbrev pub one_line : Page → Addresses → ℕ → Bool → Read ℕ
one_line g a d zero_too = do
  r ← both g a (to d d)
  check ((zero_too || nat_le 1 r.final) && nat_le r.final (length g.lines)) OutsideText
  Ok r.final
