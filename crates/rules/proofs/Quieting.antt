-- A line that is no change leaves the texts of the lines alone.
use Rattle.std.proofs.Common.{◌≡◌, ℕ, zero, suc, ◌-◌, Bool, true, false, not, ◌&&◌, ◌||◌, ltb, leb, List, [], ◌∷◌, ◌++◌, map, length, is_some, Ok, Err, refl, ap, ◌∙◌}
use Rattle.std.specs.Str.{bytes_eq}
use Rattle.std.proofs.lemmas.Bool.{both_ways}
use Rattle.command.specs.declared.fault.Fault.TheVariants.{SheetFull, Unsaved, NothingToUndo}
use Rattle.command.specs.Lists.{commands_of}
use Rattle.reading.specs.Read.{Read, ◌>>=◌}
use Rattle.reading.specs.Commands.{said}
use Rattle.command.specs.Said.{Addresses, Action, delete_lines, mark_line, move_lines, print_lines, print_next, print_number, substitute, write_file, Command, act, append_text, edit_file, quit_session, undo_change, global, Said}
use Rattle.rules.specs.Addresses.{range_of, whole_or, one_line}
use Rattle.rules.specs.Checks.{check}
use Rattle.rules.specs.Commands.{alteration_if, Outcome, accepted, or_refusal, acted, read_in, globally, by_command, command_line}
use Rattle.rules.specs.Doing.{Done, texts_of, perform, doing, is_change, unsaved_if, kept_if}
use Rattle.rules.specs.Effects.{Effect, shows, alters, marks, files, current_range, name_of, effect_of}
use Rattle.rules.specs.Files.{filed}
use Rattle.rules.specs.Giving.{odd_tail, commanded, by_mode, entered, entry_fault, Reply, give}
use Rattle.rules.specs.Globals.{Run, setting, wanted, chosen_in, choice, action_done, command_done, read_done, obeyed, turn, begun, next_turn, turns_of, start_of, run_of}
use Rattle.rules.specs.Lines.{Line, Page, with_mark, choosing, clean, on_line, mark_on}
use Rattle.rules.specs.Runs.{given, kind_of}
use Rattle.rules.specs.Undo.{QuietAltersNoText, Quiet}
use Rattle.rules.specs.World.{World, Mode, commands, gathering, typing, ended, with_mode, with_text}
use Rattle.rules.proofs.Whenever.{Whenever, whenever_any, whenever_check, by_test, by_option}

abbrev Same : World → World → Type 0
Same w v = texts_of v.text.lines ≡ texts_of w.text.lines

-- what alters no text of a line

module _ (f : Line → Line) (e : (l : Line) → (f l).text ≡ l.text) where
  texts-map : (ls : List Line) → texts_of (map f ls) ≡ texts_of ls
  texts-map [] = refl
  texts-map (l ∷ ls) = ap (λ t. t ∷ texts_of (map f ls)) (e l) ∙ ap (λ r. l.text ∷ r) (texts-map ls)

  texts_on-line : (n : ℕ) (ls : List Line) → texts_of (on_line n f ls) ≡ texts_of ls
  texts_on-line n [] = refl
  texts_on-line zero (l ∷ ls) = refl
  texts_on-line (suc zero) (l ∷ ls) = ap (λ t. t ∷ texts_of ls) (e l)
  texts_on-line (suc (suc n)) (l ∷ ls) = ap (λ r. l.text ∷ r) (texts_on-line (suc n) ls)

texts_mark : (n k : ℕ) (ls : List Line) → texts_of (mark_on n k ls) ≡ texts_of ls
texts_mark n k ls = texts_on-line (with_mark k true) (λ l. refl) n (map (with_mark k false) ls) ∙ texts-map (with_mark k false) (λ l. refl) ls

texts-choice : (want : ℕ → List ℕ → Bool) (n : ℕ) (ls : List Line) → texts_of (choice want n ls) ≡ texts_of ls
texts-choice want n [] = refl
texts-choice want n (l ∷ ls) = ap (λ r. l.text ∷ r) (texts-choice want (suc n) ls)

-- commands that are no change

abbrev Harmless : Effect → Type 0
Harmless (shows n out) = Unit {0}
Harmless (alters ps n out) = ⊥
Harmless (marks n k) = Unit {0}
Harmless (files f c all out) = Unit {0}

effect_harmless : (b : Bool) (w : World) (a : Addresses) (d : Action) → is_change b d ≡ false → Whenever Harmless (effect_of w a d)
unfolding effect_of
effect_harmless b w a delete_lines e = absurd (both_ways true e refl)
effect_harmless b w a (mark_line m) e = whenever_any Harmless (one_line w.text a w.text.current false) _ λ n. tt
effect_harmless b w a (move_lines d) e = absurd (both_ways true e refl)
effect_harmless b w a print_lines e = whenever_any Harmless (range_of w.text a (current_range w.text)) _ λ r. tt
effect_harmless b w a print_next e = whenever_any Harmless (one_line w.text a (suc w.text.current) false) _ λ n. tt
effect_harmless b w a print_number e = whenever_any Harmless (one_line w.text a (length w.text.lines) true) _ λ n. tt
effect_harmless b w a (substitute s) e = absurd (both_ways true e refl)
effect_harmless b w a (write_file f) e = whenever_any Harmless (whole_or w.text a) _ λ r. whenever_any Harmless (name_of w f) _ λ n. tt

perform_same : (room : ℕ) (w : World) (e : Effect) → Harmless e → Whenever (λ d. Same w d.world) (perform room w e)
unfolding perform
perform_same room w (shows n out) h = whenever_check (λ d. Same w d.world) (leb (length out) room) SheetFull _ λ _. refl
perform_same room w (alters ps n out) h = absurd h
perform_same room w (marks n k) h = texts_mark n k w.text.lines
perform_same room w (files f c all out) h =
    whenever_check (λ d. Same w d.world) (leb (length out) room) SheetFull _ λ _.
    whenever_any (λ d. Same w d.world) (filed w.shelf f c) _ λ s. refl

doing_same : (b : Bool) (room : ℕ) (w : World) (a : Addresses) (d : Action) → is_change b d ≡ false → Whenever (λ e. Same w e.world) (doing room w a d)
doing_same b room w a d e = by (effect_of w a d) (effect_harmless b w a d e)
  where
    by : (x : Read Effect) → Whenever Harmless x → Whenever (λ e. Same w e.world) (x >>= perform room w)
    by (Err f) h = tt
    by (Ok e) h = perform_same room w e h

kept_text : (b c : Bool) (g : Page) (w : World) → (kept_if b g (unsaved_if c w)).text ≡ w.text
kept_text true true g w = refl
kept_text true false g w = refl
kept_text false true g w = refl
kept_text false false g w = refl

-- globals in which there was no change

abbrev Unless : Bool → World → World → Type 0
Unless true w v = Unit {0}
Unless false w v = Same w v

unless-done : (c d : Bool) (w u v : World) → Unless c w u → (d ≡ false → Same u v) → Unless (c || d) w v
unless-done true d w u v h s = tt
unless-done false true w u v h s = tt
unless-done false false w u v h s = s refl ∙ h

unless_same : (c : Bool) (w u v : World) → Unless c w u → Same u v → Unless c w v
unless_same true w u v h s = tt
unless_same false w u v h s = s ∙ h

module _ (w : World) where
  abbrev Spared : Run → Type 0
  Spared s = Unless s.changed w s.world

  action_spares : (s : Run) (d : Action) (r : Read Done) → (is_change true d ≡ false → Whenever (λ e. Same s.world e.world) r) → Spared s → Spared (action_done s d r)
  action_spares s d (Err f) a h = h
  action_spares s d (Ok e) a h =
      unless-done s.changed (is_change true d) w s.world _ h λ n.
      ap (λ (g : Page). texts_of g.lines) (kept_text (is_change true d && not s.changed) (is_change true d) s.before e.world) ∙ a n

  command_spares : (room : ℕ) (s : Run) (a : Addresses) (x : Command) → Spared s → Spared (command_done room s a x)
  command_spares room s a (act d) h = action_spares s d (doing (room - length s.out) s.world a d) (doing_same true (room - length s.out) s.world a d) h
  command_spares room s a append_text h = h
  command_spares room s a quit_session h = h
  command_spares room s a undo_change h = h
  command_spares room s a (edit_file f) h = h
  command_spares room s a (global q l) h = h

  read_spares : (room : ℕ) (s : Run) (r : Read Said) → Spared s → Spared (read_done room s r)
  read_spares room s (Err f) h = h
  read_spares room s (Ok x) h = command_spares room s x.addresses x.command h

  turn_spares : (room : ℕ) (cs : List (List ℕ)) (s : Run) → Spared s → Spared (turn room cs s)
  turn_spares room [] s h = h
  turn_spares room (x ∷ xs) s h =
      by_test Spared (is_some s.fault) _ _ (λ _. h) (λ _. turn_spares room xs (obeyed room s x) (read_spares room s (said (setting s.world true) x) h))

  turns_spare : (n room : ℕ) (cs : List (List ℕ)) (s : Run) → Spared s → Spared (turns_of n room cs s)
  turns_spare zero room cs s h = h
  turns_spare (suc n) room cs s h =
      by_test Spared (is_some s.fault) _ _ (λ _. h) λ _.
      by_option Spared (next_turn s.world.text.lines) _ _ (λ _. h) λ i _.
      turns_spare n room cs (turn room cs (begun s i)) (turn_spares room cs (begun s i)
      (unless_same s.changed w s.world (begun s i).world h (texts_on-line (choosing false) (λ l. refl) i s.world.text.lines)))

-- lines given

abbrev Calls : World → Outcome → Type 0
Calls w o = Quiet o.kind → Same w o.world

altered_or_same : (b : Bool) (w v : World) → Unless b w v → Quiet (alteration_if b) → Same w v
altered_or_same true w v h q = absurd q
altered_or_same false w v h q = h

global_same : (room : ℕ) (w : World) (want : ℕ → List ℕ → Bool) (list : List (List ℕ)) → Calls w (globally room w want list)
unfolding globally run_of
global_same room w want list =
    let s = run_of room w want list in
    altered_or_same s.changed w (with_text (clean s.world.text) s.world)
    (unless_same s.changed w s.world _
    (turns_spare w (chosen_in (start_of w want).world.text.lines) room list (start_of w want) (texts-choice want 1 w.text.lines))
    (texts-map (choosing false) (λ l. refl) s.world.text.lines))

or_same : {A : Type 0} (w : World) (r : Read A) (go : A → Outcome) → ((a : A) → Calls w (go a)) → Calls w (or_refusal w r go)
or_same w (Err f) go h q = refl
or_same w (Ok a) go h q = h a q

kept_same : (b : Bool) (w v : World) → (b ≡ false → Same w v) → Quiet (alteration_if b) → Same w (kept_if b (clean w.text) (unsaved_if b v))
kept_same true w v h q = absurd q
kept_same false w v h q = h refl

acted_same : (room : ℕ) (w : World) (a : Addresses) (d : Action) → Calls w (acted room w a d)
acted_same room w a d = by (doing room w a d) (doing_same false room w a d)
  where
    by : (r : Read Done) → (is_change false d ≡ false → Whenever (λ e. Same w e.world) r)
        → Calls w (or_refusal w r λ e.
        accepted (alteration_if (is_change false d)) (kept_if (is_change false d) (clean w.text) (unsaved_if (is_change false d) e.world)) e.out)
    by (Err f) h = λ q. refl
    by (Ok e) h = kept_same (is_change false d) w e.world h

command_same : (room : ℕ) (w : World) (a : Addresses) (x : Command) → Calls w (by_command room w a x)
command_same room w a (act d) = acted_same room w a d
command_same room w a append_text = or_same w (one_line w.text a w.text.current true) _ λ n q. refl
command_same room w a quit_session = or_same w (check (w.warned || not w.unsaved) Unsaved) _ λ _ q. refl
command_same room w a undo_change = or_same w (check w.undoable NothingToUndo) _ λ _ q. absurd q
command_same room w a (edit_file n) = or_same w (read_in room w n) _ λ v q. absurd q
command_same room w a (global q l) = or_same w (whole_or w.text a) _ λ r. global_same room w (wanted q r) (commands_of l)

line_same : (room : ℕ) (w : World) (bytes : List ℕ) → Calls w (command_line room w bytes)
unfolding command_line
line_same room w bytes = or_same w (said (setting w false) bytes) _ λ x. command_same room w x.addresses x.command

commanded_same : (room : ℕ) (w : World) (bytes : List ℕ) → Calls w (commanded room w bytes)
commanded_same room w bytes = by_test (Calls w) (odd_tail false bytes) _ _ (λ _ q. refl) (λ _. line_same room (with_mode commands w) bytes)

mode_same : (room : ℕ) (w : World) (line : List ℕ) (m : Mode) → Calls w (by_mode room w line m)
mode_same room w line commands = commanded_same room w line
mode_same room w line (gathering g) =
    by_test (Calls w) (ltb 1000 (length (g ++ (10 ∷ line)))) _ _ (λ _ q. refl) (λ _. commanded_same room w (g ++ (10 ∷ line)))
mode_same room w line (typing before any) =
    by_test (Calls w) (bytes_eq line (46 ∷ [])) _ _ (λ _ q. refl) λ _.
    by_test (Calls w) (ltb (length w.text.lines) w.capacity) _ _ (λ _ q. absurd q) (λ _ q. refl)
mode_same room w line ended = λ q. refl

pub quiet-alters-no_text : QuietAltersNoText
unfolding kind_of given give entered
quiet-alters-no_text w h =
    by_option (λ (a : Reply). Quiet a.kind → Same w a.world) (entry_fault w h) _ _
    (λ _. mode_same (length h.sheet - 16) w h.line w.mode) (λ f _ q. refl)
