-- Globals: choosing lines, and their turns one by one.
use Rattle.std.specs.Prelude.{ℕ, zero, suc, ◌+◌, ◌-◌, Bool, true, false, not, ◌&&◌, ◌||◌, List, [], ◌∷◌, ◌++◌, length, is_some, Some, None, Ok, Err, Option, nat_le}
use Rattle.command.specs.declared.fault.Fault.{Fault}
use Rattle.command.specs.declared.fault.Fault.TheVariants.{NotInList}
use Rattle.command.specs.Said.{Addresses, Action, Chooser, matching_lines, lacking_lines, Command, act, append_text, edit_file, quit_session, undo_change, global, Said}
use Rattle.reading.specs.Read.{Read}
use Rattle.reading.specs.Commands.{Setting, said}
use Rattle.rules.specs.Addresses.{Range}
use Rattle.rules.specs.Doing.{Done, doing, is_change, unsaved_if, kept_if}
use Rattle.rules.specs.Lines.{Line, Page, page, choosing, clean, on_line, first_where}
use Rattle.rules.specs.Patterns.{matches}
use Rattle.rules.specs.World.{World, with_text}

-- what reading depends on besides the bytes
abbrev pub setting : World → Bool → Setting
setting w in_list = record { in_list = in_list; has_name = is_some w.name }

-- which lines are chosen: a fact about a line's bytes, for the lines in range
abbrev pub holds : Chooser → List ℕ → Bool
holds (matching_lines s) t = matches s t
holds (lacking_lines s) t = not (matches s t)

abbrev pub wanted : Chooser → Range → ℕ → List ℕ → Bool
wanted c r n t = nat_le r.first n && nat_le n r.final && holds c t

-- lines chosen anew, the first having number n
abbrev pub choice : (ℕ → List ℕ → Bool) → ℕ → List Line → List Line
choice want n [] = []
choice want n (l ∷ ls) = choosing (want n l.text) l ∷ choice want (suc n) ls

abbrev pub one_if : Bool → ℕ
one_if true = 1
one_if false = 0

abbrev pub sum_of : {L : Type 0} → (L → ℕ) → List L → ℕ
sum_of f [] = 0
sum_of f (l ∷ ls) = f l + sum_of f ls

abbrev pub chosen_in : List Line → ℕ
chosen_in ls = sum_of (λ l. one_if l.chosen) ls

-- how far a global has come
pub record Run : Type 0 where
  pub world : World
  pub out : List ℕ
  -- the text as the global found it, for the keep
  pub before : Page
  -- whether there was a change in it
  pub changed : Bool
  pub fault : Option Fault
  pub turns : ℕ

abbrev pub stopped : Run → Fault → Run
stopped s f = record { world = s.world; out = s.out; before = s.before; changed = s.changed; fault = Some f; turns = s.turns }

-- a command of the list accepted: the keep is filled at the first change
abbrev pub went : Run → Action → Done → Run
went s d e = record {
  world = kept_if (is_change true d && not s.changed) s.before (unsaved_if (is_change true d) e.world);
  out = s.out ++ e.out;
  before = s.before;
  changed = s.changed || is_change true d;
  fault = None;
  turns = s.turns;
}

abbrev pub action_done : Run → Action → Read Done → Run
action_done s d (Err f) = stopped s f
action_done s d (Ok e) = went s d e

-- a list holds actions only: reading refuses all else there
abbrev pub command_done : ℕ → Run → Addresses → Command → Run
command_done room s a (act d) = action_done s d (doing (room - length s.out) s.world a d)
command_done room s a append_text = stopped s NotInList
command_done room s a quit_session = stopped s NotInList
command_done room s a undo_change = stopped s NotInList
command_done room s a (edit_file f) = stopped s NotInList
command_done room s a (global c l) = stopped s NotInList

abbrev pub read_done : ℕ → Run → Read Said → Run
read_done room s (Err f) = stopped s f
read_done room s (Ok c) = command_done room s c.addresses c.command

-- one command of the list, read when it is to be obeyed
abbrev pub obeyed : ℕ → Run → List ℕ → Run
obeyed room s bytes = read_done room s (said (setting s.world true) bytes)

-- the list at one turn, up to a fault
abbrev pub turn : ℕ → List (List ℕ) → Run → Run
turn room [] s = s
turn room (c ∷ cs) s = elim (is_some s.fault) [ false ↦ turn room cs (obeyed room s c) | true ↦ s ]

-- line n loses its chosen bit, becomes current and has its turn
abbrev pub begun : Run → ℕ → Run
begun s n = record {
  world = with_text (page (on_line n (choosing false) s.world.text.lines) n) s.world;
  out = s.out;
  before = s.before;
  changed = s.changed;
  fault = None;
  turns = suc s.turns;
}

abbrev pub next_turn : List Line → Option ℕ
next_turn ls = first_where (λ l. l.chosen) 1 ls

-- turns until no line is chosen or a fault: no command chooses a line, so as many as were chosen suffice
abbrev pub turns_of : ℕ → ℕ → List (List ℕ) → Run → Run
turns_of zero room cs s = s
turns_of (suc k) room cs s =
    elim (is_some s.fault) [
      | true ↦ s
      | false ↦
          elim (next_turn s.world.text.lines) [
            | None ↦ s
            | Some n ↦ turns_of k room cs (turn room cs (begun s n))
          ]
    ]

abbrev pub start_of : World → (ℕ → List ℕ → Bool) → Run
start_of w want = record {
  world = with_text (page (choice want 1 w.text.lines) w.text.current) w;
  out = [];
  before = clean w.text;
  changed = false;
  fault = None;
  turns = 0;
}

unfoldable pub run_of : ℕ → World → (ℕ → List ℕ → Bool) → List (List ℕ) → Run
run_of room w want list = turns_of (chosen_in (start_of w want).world.text.lines) room list (start_of w want)
