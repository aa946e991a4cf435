-- What holds between any two lines given, from the opening on: text and keep are settled.
use Rattle.std.proofs.Common.{◌≡◌, ℕ, zero, suc, ◌-◌, ◌≤◌, Bool, true, false, not, ◌||◌, ltb, leb, List, [], ◌∷◌, ◌++◌, length, is_some, Some, Ok, Err, sym, refl, ◌∙◌, subst, arith}
use Rattle.std.specs.Str.{bytes_eq}
use Rattle.std.proofs.lemmas.List.{length-append}
use Rattle.shelf.specs.Shelf.{Shelf}
use Rattle.command.specs.declared.fault.Fault.TheVariants.{Unsaved, NothingToUndo, FileNotFound, TooManyLines, LineTooLong, SheetFull}
use Rattle.command.specs.Lists.{commands_of}
use Rattle.reading.specs.Read.{Read}
use Rattle.reading.specs.Commands.{said}
use Rattle.command.specs.Said.{Addresses, FileName, Action, Command, act, append_text, edit_file, quit_session, undo_change, global, Said}
use Rattle.rules.specs.Addresses.{whole_or, one_line}
use Rattle.rules.specs.Checks.{or_fault, check}
use Rattle.rules.specs.Commands.{Outcome, or_refusal, acted, loaded, read_in, globally, by_command, command_line}
use Rattle.rules.specs.Doing.{Done, doing, is_change, unsaved_if, kept_if, short}
use Rattle.rules.specs.Effects.{name_of}
use Rattle.rules.specs.Files.{contents_of, split}
use Rattle.rules.specs.Giving.{Handed, odd_tail, commanded, gathered, typed_in, typed, by_mode, entered, entry_fault, Reply, answered, give}
use Rattle.rules.specs.Globals.{Run, setting, wanted, chosen_in, action_done, command_done, read_done, obeyed, turn, begun, next_turn, turns_of, start_of, run_of}
use Rattle.rules.specs.Lines.{Page, page, unchosen, clean}
use Rattle.rules.specs.Pieces.{new, stay}
use Rattle.rules.specs.Printing.{numbered}
use Rattle.rules.specs.Runs.{opened, given, Lived, start, onward}
use Rattle.rules.specs.Settled.{SessionsSettled}
use Rattle.rules.specs.World.{World, Mode, commands, gathering, typing, ended, with_mode, with_text, with_unsaved}
use Rattle.rules.proofs.Effecting.{stay-once}
use Rattle.rules.proofs.Fitting.{line-within}
use Rattle.rules.proofs.Performing.{Apart, doing-apart, doing_tame}
use Rattle.rules.proofs.Staying.{present-append, present-stay, length-stay}
use Rattle.rules.proofs.Sums.{stays_append, Single}
use Rattle.rules.proofs.Tame.{Tame, settled, tame_empty, tame_current, tame_created, tame_placed, tame_clean, tame_choice, tame_begun, first-within}
use Rattle.rules.proofs.Whenever.{Whenever, whenever_any, whenever_check, by_test, by_option}

-- the current line from before an `a`, until its first line goes in, is a line of the text too
abbrev Ready : Mode → ℕ → Type 0
Ready commands count = Unit {0}
Ready (gathering g) count = Unit {0}
Ready (typing before true) count = Unit {0}
Ready (typing before false) count = before ≤ count
Ready ended count = Unit {0}

-- between two lines
pub record Calm (w : World) : Type 0 where
  pub text : Tame 0 w.text
  pub keep : Tame 0 w.keep
  pub ready : Ready w.mode (length w.text.lines)

-- while a command line is obeyed: in a global up to c lines are chosen
record Steady (c : ℕ) (w : World) : Type 0 where
  mode : w.mode ≡ commands
  text : Tame c w.text
  keep : Tame 0 w.keep

steady_calm : (w : World) → Steady 0 w → Calm w
steady_calm w s = record { text = s.text; keep = s.keep; ready = subst (λ m. Ready m (length w.text.lines)) (sym s.mode) tt }

steady_unsaved : (c : ℕ) (b : Bool) (w : World) → Steady c w → Steady c (unsaved_if b w)
steady_unsaved c true w s = record { mode = s.mode; text = s.text; keep = s.keep }
steady_unsaved c false w s = s

steady_kept : (c : ℕ) (b : Bool) (g : Page) (w : World) → Tame 0 g → Steady c w → Steady c (kept_if b g w)
steady_kept c true g w t s = record { mode = s.mode; text = s.text; keep = t }
steady_kept c false g w t s = s

-- a command of a list done
steady_done : (c : ℕ) (w v : World) → Steady c w → Apart w v → Tame c v.text → Steady c v
steady_done c w v s a t = record { mode = a.mode ∙ s.mode; text = t; keep = subst (Tame 0) (sym a.keep) s.keep }

-- globals

record Going (c : ℕ) (s : Run) : Type 0 where
  world : Steady c s.world
  before : Tame 0 s.before

module _ (c : ℕ) where
  action_going : (s : Run) (d : Action) (r : Read Done) → Whenever (λ e. Apart s.world e.world) r → Whenever (λ e. Tame c e.world.text) r
      → Going c s → Going c (action_done s d r)
  action_going s d (Err f) a t g = record { world = g.world; before = g.before }
  action_going s d (Ok e) a t g = record {
    world = steady_kept c _ s.before (unsaved_if (is_change true d) e.world) g.before
        (steady_unsaved c (is_change true d) e.world (steady_done c s.world e.world g.world a t));
    before = g.before;
  }

  command_going : (room : ℕ) (s : Run) (a : Addresses) (x : Command) → Going c s → Going c (command_done room s a x)
  command_going room s a (act d) g =
      action_going s d (doing (room - length s.out) s.world a d) (doing-apart (room - length s.out) s.world a d)
      (doing_tame c (room - length s.out) s.world g.world.text a d) g
  command_going room s a append_text g = record { world = g.world; before = g.before }
  command_going room s a quit_session g = record { world = g.world; before = g.before }
  command_going room s a undo_change g = record { world = g.world; before = g.before }
  command_going room s a (edit_file f) g = record { world = g.world; before = g.before }
  command_going room s a (global q l) g = record { world = g.world; before = g.before }

  read_going : (room : ℕ) (s : Run) (r : Read Said) → Going c s → Going c (read_done room s r)
  read_going room s (Err f) g = record { world = g.world; before = g.before }
  read_going room s (Ok x) g = command_going room s x.addresses x.command g

  turn_going : (room : ℕ) (cs : List (List ℕ)) (s : Run) → Going c s → Going c (turn room cs s)
  turn_going room [] s g = g
  turn_going room (x ∷ xs) s g =
      by_test (Going c) (is_some s.fault) _ _ (λ _. g) (λ _. turn_going room xs (obeyed room s x) (read_going room s (said (setting s.world true) x) g))

  turns_going : (n room : ℕ) (cs : List (List ℕ)) (s : Run) → Going c s → Going c (turns_of n room cs s)
  turns_going zero room cs s g = g
  turns_going (suc n) room cs s g =
      by_test (Going c) (is_some s.fault) _ _ (λ _. g) λ _.
      by_option (Going c) (next_turn s.world.text.lines) _ _ (λ _. g) λ i e.
      turns_going n room cs (turn room cs (begun s i)) (turn_going room cs (begun s i) (begun_going s i g e))
    where
      begun_going : (s : Run) (i : ℕ) → Going c s → next_turn s.world.text.lines ≡ Some i → Going c (begun s i)
      begun_going s i g e = record {
        world = record {
          mode = g.world.mode;
          text = tame_begun c s.world.text i g.world.text (omega (arith, first-within (λ l. l.chosen) 1 s.world.text.lines i e));
          keep = g.world.keep;
        };
        before = g.before;
      }

global_calm : (room : ℕ) (w : World) (want : ℕ → List ℕ → Bool) (list : List (List ℕ)) → Steady 0 w → Calm (globally room w want list).world
unfolding globally run_of
global_calm room w want list s = steady_calm _ (record { mode = g.world.mode; text = tame_clean c _ g.world.text; keep = g.world.keep })
  where
    c : ℕ
    c = chosen_in (start_of w want).world.text.lines

    g : Going (chosen_in (start_of w want).world.text.lines) (run_of room w want list)
    g = turns_going c c room list (start_of w want) (record
        { world = record { mode = s.mode; text = tame_choice want 0 w.text s.text; keep = s.keep }; before = tame_clean 0 w.text s.text })

-- commands

or_calm : {A : Type 0} (Q : A → Type 0) (w : World) (r : Read A) (go : A → Outcome) → Whenever Q r → Calm w → ((a : A) → Q a → Calm (go a).world)
    → Calm (or_refusal w r go).world
or_calm Q w (Err f) go q c h = c
or_calm Q w (Ok a) go q c h = h a q

any_read : {A : Type 0} (r : Read A) → Whenever (λ _. Unit {0}) r
any_read (Err f) = tt
any_read (Ok a) = tt

whenever_both : {A : Type 0} (P Q : A → Type 0) (r : Read A) → Whenever P r → Whenever Q r → Whenever (λ a. P a × Q a) r
whenever_both P Q (Err f) p q = tt
whenever_both P Q (Ok a) p q = (p, q)

acted_calm : (room : ℕ) (w : World) (a : Addresses) (d : Action) → Steady 0 w → Calm (acted room w a d).world
acted_calm room w a d s =
    or_calm (λ e. Apart w e.world × Tame 0 e.world.text) w (doing room w a d) _
    (whenever_both _ _ (doing room w a d) (doing-apart room w a d) (doing_tame 0 room w s.text a d)) (steady_calm w s) λ e h.
    steady_calm _ (steady_kept 0 (is_change false d) (clean w.text) (unsaved_if (is_change false d) e.world) (tame_clean 0 w.text s.text)
    (steady_unsaved 0 (is_change false d) e.world (steady_done 0 w e.world s h.0 h.1)))

read_in_calm : (room : ℕ) (w : World) (n : FileName) → Steady 0 w → Whenever Calm (read_in room w n)
read_in_calm room w n s =
    whenever_check Calm (w.warned || not w.unsaved) Unsaved _ λ _.
    whenever_any Calm (name_of w n) _ λ f.
    whenever_any Calm (or_fault FileNotFound (contents_of w.shelf f)) _ λ c.
    whenever_check Calm (leb (length (split c)) w.capacity) TooManyLines _ λ _.
    whenever_check Calm (short (split c)) LineTooLong _ λ _.
    whenever_check Calm (leb (length (numbered (length c))) room) SheetFull _ λ _.
    steady_calm (loaded w f c) (record { mode = s.mode; text = tame_created (split c); keep = tame_empty })

command_calm : (room : ℕ) (w : World) (a : Addresses) (x : Command) → Steady 0 w → Calm (by_command room w a x).world
command_calm room w a (act d) s = acted_calm room w a d s
command_calm room w a append_text s =
    or_calm (λ n. n ≤ length w.text.lines) w (one_line w.text a w.text.current true) _ (line-within w.text a _ true) (steady_calm w s) λ n h.
    record { text = tame_current 0 w.text n s.text h; keep = s.keep; ready = s.text.within }
command_calm room w a quit_session s =
    or_calm (λ _. Unit {0}) w (check (w.warned || not w.unsaved) Unsaved) _ (any_read (check (w.warned || not w.unsaved) Unsaved)) (steady_calm w s) λ _ _.
    record { text = s.text; keep = s.keep; ready = tt }
command_calm room w a undo_change s =
    or_calm (λ _. Unit {0}) w (check w.undoable NothingToUndo) _ (any_read (check w.undoable NothingToUndo)) (steady_calm w s) λ _ _.
    steady_calm _ (record { mode = s.mode; text = s.keep; keep = s.text })
command_calm room w a (edit_file n) s = or_calm Calm w (read_in room w n) _ (read_in_calm room w n s) (steady_calm w s) λ v h. h
command_calm room w a (global q l) s =
    or_calm (λ _. Unit {0}) w (whole_or w.text a) _ (any_read (whole_or w.text a)) (steady_calm w s) λ r _.
    global_calm room w (wanted q r) (commands_of l) s

line_calm : (room : ℕ) (w : World) (bytes : List ℕ) → Steady 0 w → Calm (command_line room w bytes).world
unfolding command_line
line_calm room w bytes s =
    or_calm (λ _. Unit {0}) w (said (setting w false) bytes) _ (any_read (said (setting w false) bytes)) (steady_calm w s) λ x _.
    command_calm room w x.addresses x.command s

-- lines given

commanded_calm : (room : ℕ) (w : World) (bytes : List ℕ) → Calm w → Calm (commanded room w bytes).world
commanded_calm room w bytes c =
    by_test (λ (o : Outcome). Calm o.world) (odd_tail false bytes) _ _
    (λ _. record { text = c.text; keep = c.keep; ready = tt })
    (λ _. line_calm room (with_mode commands w) bytes (record { mode = refl; text = c.text; keep = c.keep }))

gathered_calm : (room : ℕ) (w : World) (joined : List ℕ) → Calm w → Calm (gathered room w joined).world
gathered_calm room w joined c =
    by_test (λ (o : Outcome). Calm o.world) (ltb 1000 (length joined)) _ _
    (λ _. record { text = c.text; keep = c.keep; ready = tt })
    (λ _. commanded_calm room w joined c)

-- a line typed in

tame_typed : (g : Page) (line : List ℕ) → Tame 0 g → Tame 0 (typed_in g line)
tame_typed g line t =
    tame_placed 0 g (stay 1 c ++ (new line ∷ stay (suc c) n)) (suc c) t once
    (present-append n (stay 1 c) (new line ∷ stay (suc c) n) (present-stay n 1 c (omega arith) t.within) (present-stay n (suc c) n (omega arith) (omega arith)))
    (omega (arith, length-append (stay 1 c) (new line ∷ stay (suc c) n), length-stay 1 c))
  where
    c : ℕ
    c = g.current

    n : ℕ
    n = length g.lines

    once : Single (stay 1 g.current ++ (new line ∷ stay (suc g.current) (length g.lines)))
    once k =
        let a = stay-once k 1 g.current in
        let b = stay-once k (suc g.current) (length g.lines) in
        omega (arith, stays_append k (stay 1 g.current) (new line ∷ stay (suc g.current) (length g.lines)))

typed_calm : (w : World) (before : ℕ) (any : Bool) (line : List ℕ) → Calm w → Ready (typing before any) (length w.text.lines) → Calm (typed w before any line).world
typed_calm w before any line c r =
    by_test (λ (o : Outcome). Calm o.world) (bytes_eq line (46 ∷ [])) _ _ (λ _. record { text = c.text; keep = c.keep; ready = tt }) λ _.
    by_test (λ (o : Outcome). Calm o.world) (ltb (length w.text.lines) w.capacity) _ _ (λ _. put any r) (λ _. c)
  where
    put : (any : Bool) → Ready (typing before any) (length w.text.lines)
        → Calm (kept_if (not any) (page (unchosen w.text.lines) before)
        (with_mode (typing before true) (with_unsaved true (with_text (typed_in w.text line) w))))
    put true r = record { text = tame_typed w.text line c.text; keep = c.keep; ready = tt }
    put false r = record
        { text = tame_typed w.text line c.text; keep = tame_clean 0 (page w.text.lines before) (tame_current 0 w.text before c.text r); ready = tt }

mode_calm : (room : ℕ) (w : World) (line : List ℕ) (m : Mode) → Calm w → Ready m (length w.text.lines) → Calm (by_mode room w line m).world
mode_calm room w line commands c r = commanded_calm room w line c
mode_calm room w line (gathering g) c r = gathered_calm room w (g ++ (10 ∷ line)) c
mode_calm room w line (typing before any) c r = typed_calm w before any line c r
mode_calm room w line ended c r = c

given_calm : (w : World) (h : Handed) → Calm w → Calm (given w h)
unfolding given give entered
given_calm w h c = by_option (λ (a : Reply). Calm a.world) (entry_fault w h) _ _ (λ _. passed) (λ f _. c)
  where
    passed : Calm (answered w h.sheet (entered (length h.sheet - 16) w h.line)).world
    passed =
        let d = mode_calm (length h.sheet - 16) w h.line w.mode c c.ready in
        record { text = d.text; keep = d.keep; ready = d.ready }

opened_calm : (capacity : ℕ) (s : Shelf) → Calm (opened capacity s)
opened_calm capacity s = record { text = tame_empty; keep = tame_empty; ready = tt }

pub lived_calm : {w v : World} → Lived w v → Calm w → Calm v
lived_calm start c = c
lived_calm (onward {v = v} h l) c = given_calm v h (lived_calm l c)

pub sessions_settled : SessionsSettled
sessions_settled capacity s w l =
    let c = lived_calm l (opened_calm capacity s) in
    (settled w.text c.text, settled w.keep c.keep)
