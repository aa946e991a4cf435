-- What a line of each kind does to the keep, to whether there is something to undo, and to text being typed in.
use Rattle.std.proofs.Common.{◌≡◌, ℕ, zero, suc, ◌-◌, Bool, true, false, not, ◌&&◌, ◌||◌, ltb, leb, List, [], ◌∷◌, ◌++◌, length, is_some, Ok, Err, refl, ap, ◌∙◌, subst}
use Rattle.std.specs.Str.{bytes_eq}
use Rattle.command.specs.declared.fault.Fault.TheVariants.{Unsaved, NothingToUndo, FileNotFound, TooManyLines, LineTooLong, SheetFull}
use Rattle.command.specs.Lists.{commands_of}
use Rattle.reading.specs.Read.{Read}
use Rattle.reading.specs.Commands.{said}
use Rattle.command.specs.Said.{Addresses, FileName, Action, Command, act, append_text, edit_file, quit_session, undo_change, global, Said}
use Rattle.rules.specs.Addresses.{whole_or, one_line}
use Rattle.rules.specs.Checks.{or_fault, check}
use Rattle.rules.specs.Commands.{Kind, alteration, undoing, beginning, putting, stopping, reading, plain, alteration_if, Outcome, accepted, or_refusal, acted, read_in, size_of, edited, globally, by_command, command_line}
use Rattle.rules.specs.Doing.{Done, doing, is_change, unsaved_if, kept_if, short}
use Rattle.rules.specs.Effects.{name_of}
use Rattle.rules.specs.Files.{contents_of, split}
use Rattle.rules.specs.Giving.{Handed, odd_tail, commanded, gathered, typed_in, typed, by_mode, entered, entry_fault, Reply, give}
use Rattle.rules.specs.Globals.{Run, setting, wanted, chosen_in, action_done, command_done, read_done, obeyed, turn, begun, next_turn, turns_of, start_of, run_of}
use Rattle.rules.specs.Lines.{Page, page, unchosen, clean}
use Rattle.rules.specs.Printing.{numbered}
use Rattle.rules.specs.Runs.{given, kind_of}
use Rattle.rules.specs.World.{World, Mode, commands, gathering, typing, ended, with_mode, with_text, with_unsaved}
use Rattle.rules.proofs.Performing.{Apart, doing-apart}
use Rattle.rules.proofs.Whenever.{Whenever, whenever_any, whenever_check, by_test, by_option}

-- a session as undoing knows it

-- whether lines are typed in: the current line from before the `a`, and whether one has gone in
pub data Input : Type 0 where
  idle : Input
  since : ℕ → Bool → Input

abbrev pub input_of : Mode → Input
input_of commands = idle
input_of (gathering g) = idle
input_of (typing before any) = since before any
input_of ended = idle

pub record State : Type 0 where
  pub input : Input
  pub text : Page
  pub keep : Page
  pub undoable : Bool

abbrev pub state_in : Input → World → State
state_in i w = record { input = i; text = w.text; keep = w.keep; undoable = w.undoable }

abbrev pub state_of : World → State
state_of w = state_in (input_of w.mode) w

-- what a line of each kind does

-- the keep is left alone
pub record Held (w v : State) : Type 0 where
  pub keep : v.keep ≡ w.keep
  pub undoable : v.undoable ≡ w.undoable

-- the keep holds a page, to be undone
pub record Filled (g : Page) (v : State) : Type 0 where
  pub keep : v.keep ≡ g
  pub undoable : v.undoable ≡ true

abbrev pub Stays : Input → State → State → Type 0
Stays idle w v = Unit {0}
Stays (since before any) w v = (v.input ≡ since before any) × (v.text.lines ≡ w.text.lines)

abbrev pub First : Bool → ℕ → State → State → Type 0
First true before w v = Held w v
First false before w v = Filled (page (unchosen w.text.lines) before) v

abbrev pub Puts : Input → State → State → Type 0
Puts idle w v = Unit {0}
Puts (since before any) w v = (v.input ≡ since before true) × First any before w v

abbrev pub Meets : Kind → State → State → Type 0
Meets alteration w v = Filled (clean w.text) v
Meets undoing w v = Filled w.text v × (v.text ≡ w.keep)
Meets beginning w v = Held w v × (v.input ≡ since w.text.current false) × (v.text.lines ≡ w.text.lines)
Meets putting w v = Puts w.input w v
Meets stopping w v = Held w v
Meets reading w v = v.undoable ≡ false
Meets plain w v = Held w v × Stays w.input w v

abbrev Right : State → Outcome → Type 0
Right w o = Meets o.kind w (state_of o.world)

pub held_same : (w : State) → Held w w
held_same w = record { keep = refl; undoable = refl }

pub held_then : (u v w : State) → Held u v → Held v w → Held u w
held_then u v w a b = record { keep = b.keep ∙ a.keep; undoable = b.undoable ∙ a.undoable }

pub filled_then : (g : Page) (v w : State) → Filled g v → Held v w → Filled g w
filled_then g v w a b = record { keep = b.keep ∙ a.keep; undoable = b.undoable ∙ a.undoable }

-- globals: until the first change the keep is left alone, and from then on it holds the text that the global found

abbrev Kept : Bool → World → World → Type 0
Kept false w v = Held (state_in idle w) (state_in idle v)
Kept true w v = Filled (clean w.text) (state_in idle v)

kept-apart : (b : Bool) (w u v : World) → Kept b w u → Apart u v → Kept b w v
kept-apart true w u v k a = record { keep = a.keep ∙ k.keep; undoable = a.undoable ∙ k.undoable }
kept-apart false w u v k a = record { keep = a.keep ∙ k.keep; undoable = a.undoable ∙ k.undoable }

kept_more : (b d : Bool) (w v : World) (g : Page) → g ≡ clean w.text → Kept b w v → Kept (b || d) w (kept_if (d && not b) g (unsaved_if d v))
kept_more true true w v g e k = record { keep = k.keep; undoable = k.undoable }
kept_more true false w v g e k = k
kept_more false true w v g e k = record { keep = e; undoable = refl }
kept_more false false w v g e k = k

record Keeping (w : World) (s : Run) : Type 0 where
  before : s.before ≡ clean w.text
  kept : Kept s.changed w s.world

module _ (w : World) where
  action_keeps : (s : Run) (d : Action) (r : Read Done) → Whenever (λ e. Apart s.world e.world) r → Keeping w s → Keeping w (action_done s d r)
  action_keeps s d (Err f) a k = record { before = k.before; kept = k.kept }
  action_keeps s d (Ok e) a k = record {
    before = k.before;
    kept = kept_more s.changed (is_change true d) w e.world s.before k.before (kept-apart s.changed w s.world e.world k.kept a);
  }

  command-keeps : (room : ℕ) (s : Run) (a : Addresses) (x : Command) → Keeping w s → Keeping w (command_done room s a x)
  command-keeps room s a (act d) k =
      action_keeps s d (doing (room - length s.out) s.world a d) (doing-apart (room - length s.out) s.world a d) k
  command-keeps room s a append_text k = record { before = k.before; kept = k.kept }
  command-keeps room s a quit_session k = record { before = k.before; kept = k.kept }
  command-keeps room s a undo_change k = record { before = k.before; kept = k.kept }
  command-keeps room s a (edit_file f) k = record { before = k.before; kept = k.kept }
  command-keeps room s a (global q l) k = record { before = k.before; kept = k.kept }

  read_keeps : (room : ℕ) (s : Run) (r : Read Said) → Keeping w s → Keeping w (read_done room s r)
  read_keeps room s (Err f) k = record { before = k.before; kept = k.kept }
  read_keeps room s (Ok x) k = command-keeps room s x.addresses x.command k

  turn-keeps : (room : ℕ) (cs : List (List ℕ)) (s : Run) → Keeping w s → Keeping w (turn room cs s)
  turn-keeps room [] s k = k
  turn-keeps room (x ∷ xs) s k =
      by_test (Keeping w) (is_some s.fault) _ _ (λ _. k) (λ _. turn-keeps room xs (obeyed room s x) (read_keeps room s (said (setting s.world true) x) k))

  begun-keeps : (s : Run) (i : ℕ) → Keeping w s → Keeping w (begun s i)
  begun-keeps s i k = record { before = k.before; kept = kept-apart s.changed w s.world (begun s i).world k.kept (record { keep = refl; mode = refl; undoable = refl }) }

  turns-keep : (n room : ℕ) (cs : List (List ℕ)) (s : Run) → Keeping w s → Keeping w (turns_of n room cs s)
  turns-keep zero room cs s k = k
  turns-keep (suc n) room cs s k =
      by_test (Keeping w) (is_some s.fault) _ _ (λ _. k) λ _.
      by_option (Keeping w) (next_turn s.world.text.lines) _ _ (λ _. k) λ i _.
      turns-keep n room cs (turn room cs (begun s i)) (turn-keeps room cs (begun s i) (begun-keeps s i k))

kept_right : (b : Bool) (i : Input) (w v : World) → Kept b w v → Meets (alteration_if b) (state_in idle w) (state_in i v)
kept_right true i w v k = record { keep = k.keep; undoable = k.undoable }
kept_right false i w v k = (record { keep = k.keep; undoable = k.undoable }, tt)

global_right : (room : ℕ) (w : World) (want : ℕ → List ℕ → Bool) (list : List (List ℕ)) → Right (state_in idle w) (globally room w want list)
unfolding globally run_of
global_right room w want list =
    let s = run_of room w want list in
    kept_right s.changed _ w (with_text (clean s.world.text) s.world)
    (kept-apart s.changed w s.world _ (turns-keep w (chosen_in (start_of w want).world.text.lines) room list (start_of w want)
    (record { before = refl; kept = record { keep = refl; undoable = refl } })).kept (record { keep = refl; mode = refl; undoable = refl }))

-- commands

or_right : {A : Type 0} (w : World) (r : Read A) (go : A → Outcome) → ((a : A) → Right (state_in idle w) (go a)) → Right (state_in idle w) (or_refusal w r go)
or_right w (Err f) go h = (record { keep = refl; undoable = refl }, tt)
or_right w (Ok a) go h = h a

acted_right : (room : ℕ) (w : World) (a : Addresses) (d : Action) → Right (state_in idle w) (acted room w a d)
acted_right room w a d = by (doing room w a d) (doing-apart room w a d)
  where
    by : (r : Read Done) → Whenever (λ e. Apart w e.world) r
        → Right (state_in idle w) (or_refusal w r λ e.
        accepted (alteration_if (is_change false d)) (kept_if (is_change false d) (clean w.text) (unsaved_if (is_change false d) e.world)) e.out)
    by (Err f) h = (record { keep = refl; undoable = refl }, tt)
    by (Ok e) h = kept_right (is_change false d) _ w _ (done (is_change false d) e.world h)
      where
        done : (b : Bool) (v : World) → Apart w v → Kept b w (kept_if b (clean w.text) (unsaved_if b v))
        done true v h = record { keep = refl; undoable = refl }
        done false v h = record { keep = h.keep; undoable = h.undoable }

-- an `e` leaves nothing to undo
read_in_nothing : (room : ℕ) (w : World) (n : FileName) → Whenever (λ (v : World). v.undoable ≡ false) (read_in room w n)
read_in_nothing room w n =
    whenever_check (λ (v : World). v.undoable ≡ false) (w.warned || not w.unsaved) Unsaved _ λ _.
    whenever_any (λ (v : World). v.undoable ≡ false) (name_of w n) _ λ f.
    whenever_any (λ (v : World). v.undoable ≡ false) (or_fault FileNotFound (contents_of w.shelf f)) _ λ c.
    whenever_check (λ (v : World). v.undoable ≡ false) (leb (length (split c)) w.capacity) TooManyLines _ λ _.
    whenever_check (λ (v : World). v.undoable ≡ false) (short (split c)) LineTooLong _ λ _.
    whenever_check (λ (v : World). v.undoable ≡ false) (leb (length (numbered (length c))) room) SheetFull _ λ _. refl

edited_right : (room : ℕ) (w : World) (n : FileName) → Right (state_in idle w) (edited room w n)
edited_right room w n = by (read_in room w n) (read_in_nothing room w n)
  where
    by : (r : Read World) → Whenever (λ (v : World). v.undoable ≡ false) r → Right (state_in idle w) (or_refusal w r λ v. accepted reading v (size_of w n))
    by (Err f) h = (record { keep = refl; undoable = refl }, tt)
    by (Ok v) h = h

command_right : (room : ℕ) (w : World) (a : Addresses) (x : Command) → Right (state_in idle w) (by_command room w a x)
command_right room w a (act d) = acted_right room w a d
command_right room w a append_text = or_right w (one_line w.text a w.text.current true) _ λ n. (record { keep = refl; undoable = refl }, refl, refl)
command_right room w a quit_session = or_right w (check (w.warned || not w.unsaved) Unsaved) _ λ _. (record { keep = refl; undoable = refl }, tt)
command_right room w a undo_change = or_right w (check w.undoable NothingToUndo) _ λ _. (record { keep = refl; undoable = refl }, refl)
command_right room w a (edit_file n) = edited_right room w n
command_right room w a (global q l) = or_right w (whole_or w.text a) _ λ r. global_right room w (wanted q r) (commands_of l)

-- lines given

line_right : (room : ℕ) (w : World) (bytes : List ℕ) → Right (state_in idle w) (command_line room w bytes)
unfolding command_line
line_right room w bytes = or_right w (said (setting w false) bytes) _ λ x. command_right room w x.addresses x.command

commanded_right : (room : ℕ) (w : World) (bytes : List ℕ) → Right (state_in idle w) (commanded room w bytes)
commanded_right room w bytes =
    by_test (Right (state_in idle w)) (odd_tail false bytes) _ _ (λ _. (record { keep = refl; undoable = refl }, tt)) (λ _. line_right room (with_mode commands w) bytes)

gathered_right : (room : ℕ) (w : World) (joined : List ℕ) → Right (state_in idle w) (gathered room w joined)
gathered_right room w joined =
    by_test (Right (state_in idle w)) (ltb 1000 (length joined)) _ _ (λ _. (record { keep = refl; undoable = refl }, tt)) (λ _. commanded_right room w joined)

typed_right : (w : World) (before : ℕ) (any : Bool) (line : List ℕ) → w.mode ≡ typing before any → Right (state_in (since before any) w) (typed w before any line)
typed_right w before any line e =
    by_test (Right (state_in (since before any) w)) (bytes_eq line (46 ∷ [])) _ _ (λ _. record { keep = refl; undoable = refl }) λ _.
    by_test (Right (state_in (since before any) w)) (ltb (length w.text.lines) w.capacity) _ _ (λ _. goes_in any)
    (λ _. (record { keep = refl; undoable = refl }, (ap input_of e, refl)))
  where
    goes_in : (any : Bool) → Puts (since before any) (state_in (since before any) w)
        (state_of (kept_if (not any) (page (unchosen w.text.lines) before) (with_mode (typing before true) (with_unsaved true (with_text (typed_in w.text line) w)))))
    goes_in true = (refl, record { keep = refl; undoable = refl })
    goes_in false = (refl, record { keep = refl; undoable = refl })

mode_right : (room : ℕ) (w : World) (line : List ℕ) (m : Mode) → w.mode ≡ m → Right (state_in (input_of m) w) (by_mode room w line m)
mode_right room w line commands e = commanded_right room w line
mode_right room w line (gathering g) e = gathered_right room w (g ++ (10 ∷ line))
mode_right room w line (typing before any) e = typed_right w before any line e
mode_right room w line ended e = (record { keep = refl; undoable = refl }, tt)

stays_here : (i : Input) (w : World) → input_of w.mode ≡ i → Stays i (state_of w) (state_of w)
stays_here idle w e = tt
stays_here (since before any) w e = (e, refl)

pub given_right : (w : World) (h : Handed) → Meets (kind_of w h) (state_of w) (state_of (given w h))
unfolding kind_of given give entered
given_right w h =
    by_option (λ (a : Reply). Meets a.kind (state_of w) (state_of a.world)) (entry_fault w h) _ _
    (λ _. mode_right (length h.sheet - 16) w h.line w.mode refl) (λ f _. (record { keep = refl; undoable = refl }, stays_here (input_of w.mode) w refl))

pub met : (k : Kind) (w : World) (h : Handed) → kind_of w h ≡ k → Meets k (state_of w) (state_of (given w h))
met k w h e = subst (λ k. Meets k (state_of w) (state_of (given w h))) e (given_right w h)
