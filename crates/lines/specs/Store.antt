-- What a line store means: a list of lines, numbered from 1, and a fixed capacity;
-- what its questions answer, and what a change answers and leaves.
use Rattle.std.specs.Prelude.{ℕ, ◌-◌, ◌≤◌, Bool, cond, not, ◌&&◌, List, [], ◌∷◌, ◌++◌, length, take, drop, is_ok, Ok, Err, Result, nat_le, slice_index_or, slice_set}
use Rattle.lines.specs.declared.fault.StoreFault.{StoreFault}
use Rattle.lines.specs.declared.fault.StoreFault.TheVariants.{Outside, Full, BadText, ShortBuffer}
use Rattle.lines.specs.Line.{Line, LineFits, fitting, defined, blank}

pub record Store : Type 0 where
  pub lines : List Line
  pub capacity : ℕ

abbrev pub empty_store : ℕ → Store
empty_store capacity = record { lines = []; capacity = capacity }

abbrev pub with_lines : Store → List Line → Store
with_lines s ls = record { lines = ls; capacity = s.capacity }

-- line n, or a blank line where there is none
abbrev pub line_at : Store → ℕ → Line
line_at s n = slice_index_or s.lines (n - 1) blank

abbrev pub present : Store → ℕ → Bool
present s n = nat_le 1 n && nat_le n (length s.lines)

-- what every store keeps
pub record Sound (s : Store) : Type 0 where
  pub some : 1 ≤ s.capacity
  pub bounded : s.capacity ≤ 4096
  pub room : length s.lines ≤ s.capacity
  pub each : (n : ℕ) → LineFits (line_at s n)

-- the length of line n
abbrev pub length_answer : Store → ℕ → Result ℕ StoreFault
length_answer s n = cond (present s n) (Ok (length (line_at s n).text)) (Err Outside)

-- the tag of line n
abbrev pub tag_answer : Store → ℕ → Result ℕ StoreFault
tag_answer s n = cond (present s n) (Ok (line_at s n).tag) (Err Outside)

-- a copy of line n's text into a buffer of so many bytes, and the buffer afterwards
abbrev pub copy_answer : Store → ℕ → ℕ → Result ℕ StoreFault
copy_answer s n room =
    cond (not (present s n)) (Err Outside)
    (cond (not (nat_le (length (line_at s n).text) room)) (Err ShortBuffer)
    (Ok (length (line_at s n).text)))

abbrev pub copy_after : Store → ℕ → List ℕ → List ℕ
copy_after s n buffer =
    cond (is_ok (copy_answer s n (length buffer)))
    ((line_at s n).text ++ drop (length (line_at s n).text) buffer)
    buffer

-- a line put behind line n, where 0 means in front of all
abbrev pub put_check : ℕ → ℕ → ℕ → List ℕ → ℕ → Result (Unit {0}) StoreFault
put_check count capacity n t g =
    cond (not (nat_le n count && defined g)) (Err Outside)
    (cond (not (fitting t)) (Err BadText)
    (cond (nat_le capacity count) (Err Full)
    (Ok tt)))

abbrev pub put_answer : Store → ℕ → List ℕ → ℕ → Result (Unit {0}) StoreFault
put_answer s n t g = put_check (length s.lines) s.capacity n t g

abbrev pub inserted : List Line → ℕ → Line → List Line
inserted ls n l = take n ls ++ l ∷ drop n ls

abbrev pub put_after : Store → ℕ → List ℕ → ℕ → Store
put_after s n t g =
    cond (is_ok (put_answer s n t g)) (with_lines s (inserted s.lines n (record { text = t; tag = g }))) s

-- line n removed
abbrev pub remove_answer : Store → ℕ → Result (Unit {0}) StoreFault
remove_answer s n = cond (present s n) (Ok tt) (Err Outside)

abbrev pub remove_after : Store → ℕ → Store
remove_after s n = cond (present s n) (with_lines s (take (n - 1) s.lines ++ drop n s.lines)) s

-- the tag of line n set
abbrev pub set_tag_answer : Store → ℕ → ℕ → Result (Unit {0}) StoreFault
set_tag_answer s n g = cond (present s n && defined g) (Ok tt) (Err Outside)

abbrev pub set_tag_after : Store → ℕ → ℕ → Store
set_tag_after s n g =
    cond (present s n && defined g)
    (with_lines s (slice_set s.lines (n - 1) (record { text = (line_at s n).text; tag = g })))
    s
