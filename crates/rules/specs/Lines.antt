-- Lines as an editor sees them: text, marks, and whether a global has chosen them; and a text with its current line.
use Rattle.std.specs.Prelude.{ℕ, zero, suc, ◌-◌, ◌/◌, ◌%◌, ◌^◌, Bool, true, false, List, [], ◌∷◌, map, take, drop, replicate, Some, None, Option, ◌==◌, nat_le, slice_index_or, slice_set}
use Rattle.lines.specs.Line as stored
use Rattle.lines.specs.Store.{Store}

pub record Line : Type 0 where
  pub text : List ℕ
  -- for each mark, whether the line has it: a is number 0, z is 25
  pub marks : List Bool
  pub chosen : Bool

-- a text with its current line, 0 where it has none: a session has one in use, and one that it keeps
pub record Page : Type 0 where
  pub lines : List Line
  pub current : ℕ

abbrev pub page : List Line → ℕ → Page
page ls n = record { lines = ls; current = n }

-- the lowest bits of a number, the first being bit 0
abbrev pub bits : ℕ → ℕ → List Bool
bits zero g = []
bits (suc n) g = (g % 2 == 1) ∷ bits n (g / 2)

-- a line of a store: bits 0 to 25 of its tag are the marks, bit 26 says that it is chosen
abbrev pub seen : stored.Line → Line
seen l = record { text = l.text; marks = bits 26 l.tag; chosen = nat_le (2 ^ 26) l.tag }

abbrev pub seen_lines : Store → List Line
seen_lines s = map seen s.lines

-- marks

abbrev pub no_marks : List Bool
no_marks = replicate 26 false

abbrev pub has_mark : ℕ → Line → Bool
has_mark k l = slice_index_or l.marks k false

abbrev pub with_mark : ℕ → Bool → Line → Line
with_mark k b l = record { text = l.text; marks = slice_set l.marks k b; chosen = l.chosen }

-- choosing

abbrev pub choosing : Bool → Line → Line
choosing c l = record { text = l.text; marks = l.marks; chosen = c }

abbrev pub unchosen : List Line → List Line
unchosen ls = map (choosing false) ls

-- a page as the keep takes it
abbrev pub clean : Page → Page
clean g = page (unchosen g.lines) g.current

-- a line that is typed, read or made by a substitution: no mark, and not chosen
abbrev pub created : List ℕ → Line
created t = record { text = t; marks = no_marks; chosen = false }

-- lines by their numbers, from 1

-- line n, as a list of one; of none where there is no line n
abbrev pub picked : {L : Type 0} → List L → ℕ → List L
picked ls zero = []
picked ls (suc n) = take 1 (drop n ls)

-- lines f to l
abbrev pub from_to : {L : Type 0} → ℕ → ℕ → List L → List L
from_to f l ls = take (suc l - f) (drop (f - 1) ls)

-- line n replaced by what f makes of it
abbrev pub on_line : {L : Type 0} → ℕ → (L → L) → List L → List L
on_line n f [] = []
on_line zero f (l ∷ ls) = l ∷ ls
on_line (suc zero) f (l ∷ ls) = f l ∷ ls
on_line (suc (suc n)) f (l ∷ ls) = l ∷ on_line (suc n) f ls

-- the number of the first line with a fact, where the first of these has number n
abbrev pub first_where : {L : Type 0} → (L → Bool) → ℕ → List L → Option ℕ
first_where test n [] = None
first_where test n (l ∷ ls) = elim (test l) [ true ↦ Some n | false ↦ first_where test (suc n) ls ]

-- line n gets mark k, and no other line has it then
abbrev pub mark_on : ℕ → ℕ → List Line → List Line
mark_on n k ls = on_line n (with_mark k true) (map (with_mark k false) ls)
