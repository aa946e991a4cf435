-- What a command line comes to: the world afterwards, what is printed, the fault, a global's counts, and its kind.
use Rattle.std.specs.Prelude.{ℕ, Bool, true, false, not, ◌||◌, List, [], map, length, Some, None, Ok, Err, Option, nat_le}
use Rattle.command.specs.declared.fault.Fault.{Fault}
use Rattle.command.specs.declared.fault.Fault.TheVariants.{Unsaved, NothingToUndo, FileNotFound, TooManyLines, LineTooLong, SheetFull}
use Rattle.command.specs.Said.{Addresses, FileName, Action, Command, act, append_text, edit_file, quit_session, undo_change, global}
use Rattle.command.specs.Lists.{commands_of}
use Rattle.reading.specs.Read.{Read, ◌>>=◌}
use Rattle.reading.specs.Commands.{said}
use Rattle.rules.specs.Checks.{◌>>◌, or_fault, check}
use Rattle.rules.specs.Addresses.{whole_or, one_line}
use Rattle.rules.specs.Doing.{doing, is_change, unsaved_if, kept_if, short}
use Rattle.rules.specs.Effects.{name_of}
use Rattle.rules.specs.Files.{contents_of, split}
use Rattle.rules.specs.Globals.{Run, setting, wanted, chosen_in, start_of, run_of}
use Rattle.rules.specs.Lines.{page, clean, created}
use Rattle.rules.specs.Printing.{numbered}
use Rattle.rules.specs.World.{World, typing, ended, with_mode, with_text, with_keep, with_unsaved}

-- what a given line was, for undoing
pub data Kind : Type 0 where
  -- an accepted `d`, `m` or `s`, or a global, faulted or not, with a change in it
  alteration : Kind
  -- an accepted `u`
  undoing : Kind
  -- an accepted `a`; a line of text that went in; the `.` that ends the text
  beginning putting stopping : Kind
  -- an accepted `e`
  reading : Kind
  -- any other line, accepted or refused
  plain : Kind

pub record Outcome : Type 0 where
  pub world : World
  pub out : List ℕ
  pub fault : Option Fault
  pub chosen : ℕ
  pub turns : ℕ
  pub kind : Kind

abbrev pub accepted : Kind → World → List ℕ → Outcome
accepted k w out = record { world = w; out = out; fault = None; chosen = 0; turns = 0; kind = k }

-- a refusal alters nothing
abbrev pub refusal : World → Fault → Outcome
refusal w f = record { world = w; out = []; fault = Some f; chosen = 0; turns = 0; kind = plain }

abbrev pub or_refusal : {A : Type 0} → World → Read A → (A → Outcome) → Outcome
or_refusal w (Err f) go = refusal w f
or_refusal w (Ok a) go = go a

abbrev pub alteration_if : Bool → Kind
alteration_if true = alteration
alteration_if false = plain

-- an action by itself, not in a list
abbrev pub acted : ℕ → World → Addresses → Action → Outcome
acted room w a d = or_refusal w (doing room w a d) λ e.
    accepted (alteration_if (is_change false d))
    (kept_if (is_change false d) (clean w.text) (unsaved_if (is_change false d) e.world)) e.out

abbrev pub appended : World → Addresses → Outcome
appended w a = or_refusal w (one_line w.text a w.text.current true) λ n.
    accepted beginning (with_mode (typing w.text.current false) (with_text (page w.text.lines n) w)) []

-- the world with a file read in
abbrev pub loaded : World → List ℕ → List ℕ → World
loaded w f c = record {
  mode = w.mode;
  text = page (map created (split c)) (length (split c));
  keep = page [] 0;
  capacity = w.capacity;
  shelf = w.shelf;
  name = Some f;
  undoable = false;
  unsaved = false;
  warned = w.warned;
}

abbrev pub read_in : ℕ → World → FileName → Read World
read_in room w n = do
  check (w.warned || not w.unsaved) Unsaved
  f ← name_of w n
  c ← or_fault FileNotFound (contents_of w.shelf f)
  check (nat_le (length (split c)) w.capacity) TooManyLines
  check (short (split c)) LineTooLong
  check (nat_le (length (numbered (length c))) room) SheetFull
  Ok (loaded w f c)

-- what `e` prints: the size of the file that was read
abbrev pub size_of : World → FileName → List ℕ
size_of w n = elim (name_of w n) [ Err f ↦ [] | Ok f ↦ elim (contents_of w.shelf f) [ None ↦ [] | Some c ↦ numbered (length c) ] ]

abbrev pub edited : ℕ → World → FileName → Outcome
edited room w n = or_refusal w (read_in room w n) λ v. accepted reading v (size_of w n)

abbrev pub quitted : World → Outcome
quitted w = or_refusal w (check (w.warned || not w.unsaved) Unsaved) λ _. accepted plain (with_mode ended w) []

-- text and keep are exchanged, with their current lines
abbrev pub undone : World → Outcome
undone w = or_refusal w (check w.undoable NothingToUndo) λ _.
    accepted undoing (with_unsaved true (with_text w.keep (with_keep w.text w))) []

-- a global over the lines that are wanted
unfoldable pub globally : ℕ → World → (ℕ → List ℕ → Bool) → List (List ℕ) → Outcome
globally room w want list =
    let s : Run = run_of room w want list in
    record {
      world = with_text (clean s.world.text) s.world;
      out = s.out;
      fault = s.fault;
      chosen = chosen_in (start_of w want).world.text.lines;
      turns = s.turns;
      kind = alteration_if s.changed;
    }

abbrev pub by_command : ℕ → World → Addresses → Command → Outcome
by_command room w a (act d) = acted room w a d
by_command room w a append_text = appended w a
by_command room w a quit_session = quitted w
by_command room w a undo_change = undone w
by_command room w a (edit_file n) = edited room w n
by_command room w a (global c list) = or_refusal w (whole_or w.text a) λ r. globally room w (wanted c r) (commands_of list)

unfoldable pub command_line : ℕ → World → List ℕ → Outcome
command_line room w bytes = or_refusal w (said (setting w false) bytes) λ c. by_command room w c.addresses c.command
