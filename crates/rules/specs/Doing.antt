-- A command done: reckoned as a whole, then 60, 61, 62 and what the shelf answers; and what is a change.
use Rattle.std.specs.Prelude.{ℕ, Bool, true, false, ◌&&◌, List, [], ◌∷◌, map, length, Ok, nat_le}
use Rattle.command.specs.declared.fault.Fault.TheVariants.{TooManyLines, LineTooLong, SheetFull}
use Rattle.reading.specs.Read.{Read, ◌>>=◌}
use Rattle.command.specs.Said.{Addresses, Action, delete_lines, mark_line, move_lines, print_lines, print_next, print_number, substitute, write_file}
use Rattle.rules.specs.Checks.{◌>>◌, check}
use Rattle.rules.specs.Effects.{Effect, shows, alters, marks, files, effect_of}
use Rattle.rules.specs.Files.{filed}
use Rattle.rules.specs.Lines.{Line, Page, page, created, mark_on}
use Rattle.rules.specs.Pieces.{placed}
use Rattle.rules.specs.World.{World, with_text, with_keep, with_unsaved, with_file}

-- what a command leaves that nothing stops
pub record Done : Type 0 where
  pub world : World
  pub out : List ℕ

abbrev pub done : World → List ℕ → Read Done
done w out = Ok (record { world = w; out = out })

-- no text of these has over 255 bytes
abbrev pub short : List (List ℕ) → Bool
short [] = true
short (t ∷ ts) = nat_le (length t) 255 && short ts

abbrev pub texts_of : List Line → List (List ℕ)
texts_of ls = map (λ l. l.text) ls

-- `room` is how much may still be printed
unfoldable pub perform : ℕ → World → Effect → Read Done
perform room w (shows n out) = do
  check (nat_le (length out) room) SheetFull
  done (with_text (page w.text.lines n) w) out
perform room w (alters ps n out) = do
  let after : List Line = placed created w.text.lines ps
  check (nat_le (length after) w.capacity) TooManyLines
  check (short (texts_of after)) LineTooLong
  check (nat_le (length out) room) SheetFull
  done (with_text (page after n) w) out
perform room w (marks n k) = done (with_text (page (mark_on n k w.text.lines) w.text.current) w) []
perform room w (files f c all out) = do
  check (nat_le (length out) room) SheetFull
  s ← filed w.shelf f c
  done (with_file s f all w) out

-- a command that a list may hold, with its addresses
abbrev pub doing : ℕ → World → Addresses → Action → Read Done
doing room w a d = do
  e ← effect_of w a d
  perform room w e

-- `d`, `m` and `s` are changes, and in a global `k`
abbrev pub is_change : Bool → Action → Bool
is_change in_global delete_lines = true
is_change in_global (mark_line m) = in_global
is_change in_global (move_lines d) = true
is_change in_global print_lines = false
is_change in_global print_next = false
is_change in_global print_number = false
is_change in_global (substitute s) = true
is_change in_global (write_file f) = false

-- a change makes the text unsaved
abbrev pub unsaved_if : Bool → World → World
unsaved_if true w = with_unsaved true w
unsaved_if false w = w

-- before a change the text goes into the keep
abbrev pub kept_if : Bool → Page → World → World
kept_if true g w = with_keep g w
kept_if false g w = w
