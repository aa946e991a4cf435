-- A refused line alters nothing, unless a turn of a global had begun.
use Rattle.std.proofs.Common.{◌≡◌, ℕ, zero, suc, ◌-◌, ◌≤◌, Bool, true, false, not, ◌||◌, ltb, List, [], ◌∷◌, ◌++◌, length, is_some, Some, None, Ok, Err, Option, sym, refl, ◌∙◌, arith}
use Rattle.std.specs.Str.{bytes_eq}
use Rattle.command.specs.declared.fault.Fault.{Fault}
use Rattle.command.specs.declared.fault.Fault.TheVariants.{CommandTooLong, TextFull}
use Rattle.command.specs.Lists.{commands_of}
use Rattle.reading.specs.Read.{Read}
use Rattle.reading.specs.Commands.{said}
use Rattle.command.specs.Said.{Addresses, Action, Command, act, append_text, edit_file, quit_session, undo_change, global, Said}
use Rattle.rules.specs.Addresses.{whole_or, one_line}
use Rattle.rules.specs.Checks.{check}
use Rattle.rules.specs.Commands.{plain, stopping, putting, Outcome, refusal, or_refusal, accepted, read_in, globally, by_command, command_line}
use Rattle.rules.specs.Doing.{Done, doing, kept_if}
use Rattle.rules.specs.Giving.{Handed, Reply, typed_in, odd_tail, commanded, gathered, typed, by_mode, entered, entry_fault, turned_away, answered, give}
use Rattle.rules.specs.Globals.{Run, action_done, command_done, read_done, obeyed, turn, begun, next_turn, turns_of, start_of, run_of, setting, wanted}
use Rattle.rules.specs.Lines.{page, unchosen}
use Rattle.rules.specs.Refusals.{Unaltered, RefusalsAlterNothing}
use Rattle.rules.specs.World.{World, Mode, commands, gathering, typing, ended, with_mode, with_text, with_unsaved, with_warned}

-- a value is there or not
absent : {A B : Type 0} (f : A) → None ≡ Some f → B
absent f e = let z : ◌≡◌ {A = ℕ} 0 1 = cc in absurd (omega arith)

same : (w : World) → Unaltered w w
same w = record { text = refl; keep = refl; shelf = refl; name = refl; undoable = refl; unsaved = refl }

-- what the law says of an outcome
abbrev Right : World → Outcome → Type 0
Right w o = (f : Fault) → o.fault ≡ Some f → o.turns ≡ 0 → Unaltered w o.world

or_right : {A : Type 0} (w : World) (r : Read A) (go : A → Outcome) → ((a : A) → Right w (go a)) → Right w (or_refusal w r go)
or_right w (Err g) go h = λ f e t. same w
or_right w (Ok a) go h = h a

-- turns are counted as they begin, and never taken back
action_turns : (s : Run) (d : Action) (r : Read Done) → (action_done s d r).turns ≡ s.turns
action_turns s d (Err f) = refl
action_turns s d (Ok e) = refl

command-turns : (room : ℕ) (s : Run) (a : Addresses) (c : Command) → (command_done room s a c).turns ≡ s.turns
command-turns room s a (act d) = action_turns s d (doing (room - length s.out) s.world a d)
command-turns room s a append_text = refl
command-turns room s a quit_session = refl
command-turns room s a undo_change = refl
command-turns room s a (edit_file f) = refl
command-turns room s a (global c l) = refl

read-turns : (room : ℕ) (s : Run) (r : Read Said) → (read_done room s r).turns ≡ s.turns
read-turns room s (Err f) = refl
read-turns room s (Ok c) = command-turns room s c.addresses c.command

turn-turns : (room : ℕ) (cs : List (List ℕ)) (s : Run) → (turn room cs s).turns ≡ s.turns
turn-turns room [] s = refl
turn-turns room (c ∷ cs) s = by (is_some s.fault) (turn-turns room cs (obeyed room s c) ∙ read-turns room s (said (setting s.world true) c))
  where
    by : (b : Bool) → (turn room cs (obeyed room s c)).turns ≡ s.turns → (elim b as (λ _. Run) [ false ↦ turn room cs (obeyed room s c) | true ↦ s ]).turns ≡ s.turns
    by true e = refl
    by false e = e

never_back : (k room : ℕ) (cs : List (List ℕ)) (s : Run) → s.turns ≤ (turns_of k room cs s).turns
never_back zero room cs s = omega arith
never_back (suc k) room cs s = by (is_some s.fault) (next_turn s.world.text.lines) (λ n. never_back k room cs (turn room cs (begun s n)))
  where
    by : (b : Bool) (o : Option ℕ) → ((n : ℕ) → (turn room cs (begun s n)).turns ≤ (turns_of k room cs (turn room cs (begun s n))).turns)
        → s.turns ≤ (elim b as (λ _. Run) [ true ↦ s | false ↦ elim o as (λ _. Run) [ None ↦ s | Some n ↦ turns_of k room cs (turn room cs (begun s n)) ] ]).turns
    by true o h = omega arith
    by false None h = omega arith
    by false (Some n) h = let t = turn-turns room cs (begun s n) in omega (arith, h n)

-- a global without turns has no fault
turnless : (k room : ℕ) (cs : List (List ℕ)) (s : Run) → s.turns ≡ 0 → s.fault ≡ None → (turns_of k room cs s).turns ≡ 0 → (turns_of k room cs s).fault ≡ None
turnless zero room cs s z n = λ e. n
turnless (suc k) room cs s z n = by (is_some s.fault) (next_turn s.world.text.lines)
  where
    by : (b : Bool) (o : Option ℕ)
        → (elim b as (λ _. Run) [ true ↦ s | false ↦ elim o as (λ _. Run) [ None ↦ s | Some i ↦ turns_of k room cs (turn room cs (begun s i)) ] ]).turns ≡ 0
        → (elim b as (λ _. Run) [ true ↦ s | false ↦ elim o as (λ _. Run) [ None ↦ s | Some i ↦ turns_of k room cs (turn room cs (begun s i)) ] ]).fault ≡ None
    by true o e = n
    by false None e = n
    by false (Some i) e =
        let t = turn-turns room cs (begun s i) in
        absurd (omega (arith, never_back k room cs (turn room cs (begun s i))))

global_right : (room : ℕ) (w : World) (want : ℕ → List ℕ → Bool) (list : List (List ℕ)) → Right w (globally room w want list)
unfolding globally run_of
global_right room w want list f e t = absent f (sym (turnless _ room list (start_of w want) refl refl t) ∙ e)

command_right : (room : ℕ) (w : World) (a : Addresses) (c : Command) → Right w (by_command room w a c)
command_right room w a (act d) = or_right w (doing room w a d) _ λ d f e t. absent f e
command_right room w a append_text = or_right w (one_line w.text a w.text.current true) _ λ n f e t. absent f e
command_right room w a quit_session = or_right w (check (w.warned || not w.unsaved) _) _ λ u f e t. absent f e
command_right room w a undo_change = or_right w (check w.undoable _) _ λ u f e t. absent f e
command_right room w a (edit_file n) = or_right w (read_in room w n) _ λ v f e t. absent f e
command_right room w a (global c l) = or_right w (whole_or w.text a) _ λ r. global_right room w (wanted c r) (commands_of l)

line_right : (room : ℕ) (w : World) (bytes : List ℕ) → Right w (command_line room w bytes)
unfolding command_line
line_right room w bytes = or_right w (said (setting w false) bytes) _ λ c. command_right room w c.addresses c.command

from-mode : (w v : World) (m : Mode) → Unaltered (with_mode m w) v → Unaltered w v
from-mode w v m u = record { text = u.text; keep = u.keep; shelf = u.shelf; name = u.name; undoable = u.undoable; unsaved = u.unsaved }

commanded_right : (room : ℕ) (w : World) (bytes : List ℕ) → Right w (commanded room w bytes)
commanded_right room w bytes = by (odd_tail false bytes)
  where
    by : (b : Bool) → Right w (elim b as (λ _. Outcome) [ true ↦ accepted plain (with_mode (gathering bytes) w) [] | false ↦ command_line room (with_mode commands w) bytes ])
    by true = λ f e t. absent f e
    by false = λ f e t. from-mode w _ commands (line_right room (with_mode commands w) bytes f e t)

gathered_right : (room : ℕ) (w : World) (joined : List ℕ) → Right w (gathered room w joined)
gathered_right room w joined = by (ltb 1000 (length joined))
  where
    by : (b : Bool) → Right w (elim b as (λ _. Outcome) [ true ↦ refusal (with_mode commands w) CommandTooLong | false ↦ commanded room w joined ])
    by true = λ f e t. from-mode w _ commands (same (with_mode commands w))
    by false = commanded_right room w joined

typed_right : (w : World) (before : ℕ) (any : Bool) (line : List ℕ) → Right w (typed w before any line)
typed_right w before any line = by (bytes_eq line (46 ∷ [])) (ltb (length w.text.lines) w.capacity)
  where
    by : (b c : Bool) → Right w (elim b as (λ _. Outcome) [
      | true ↦ accepted stopping (with_mode commands w) []
      | false ↦
          elim c as (λ _. Outcome) [ false ↦ refusal w TextFull | true ↦ accepted putting (kept_if (not any) (page (unchosen w.text.lines) before) (with_mode (typing before true) (with_unsaved true (with_text (typed_in w.text line) w)))) [] ]
    ])
    by true c = λ f e t. absent f e
    by false false = λ f e t. same w
    by false true = λ f e t. absent f e

mode_right : (room : ℕ) (w : World) (line : List ℕ) (m : Mode) → Right w (by_mode room w line m)
mode_right room w line commands = commanded_right room w line
mode_right room w line (gathering g) = gathered_right room w (g ++ (10 ∷ line))
mode_right room w line (typing before any) = typed_right w before any line
mode_right room w line ended = λ f e t. same w

entered_right : (room : ℕ) (w : World) (line : List ℕ) → Right w (entered room w line)
unfolding entered
entered_right room w line = mode_right room w line w.mode

warning : (w v : World) (b : Bool) → Unaltered w v → Unaltered w (with_warned b v)
warning w v b u = record { text = u.text; keep = u.keep; shelf = u.shelf; name = u.name; undoable = u.undoable; unsaved = u.unsaved }

abbrev ReplyRight : World → Reply → Type 0
ReplyRight w r = (f : Fault) → r.answer.fault ≡ Some f → r.answer.turns ≡ 0 → Unaltered w r.world

give_right : (w : World) (h : Handed) → ReplyRight w (give w h)
unfolding give
give_right w h = by (entry_fault w h)
  where
    by : (o : Option Fault) → ReplyRight w (elim o as (λ _. Reply) [ Some f ↦ turned_away w h.sheet f | None ↦ answered w h.sheet (entered (length h.sheet - 16) w h.line) ])
    by (Some f) = λ g e t. same w
    by None = λ g e t. warning w _ _ (entered_right (length h.sheet - 16) w h.line g e t)

pub refusals_alter_nothing_lem : RefusalsAlterNothing
refusals_alter_nothing_lem w h f e t = give_right w h f e t
