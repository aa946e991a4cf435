-- How a global deals its turns, over the whole of it. At its start each line gets a serial, its number in the text. A line that
-- stays keeps its serial, and each line created gets the next one that no line had. Serials are held in no store: they exist in
-- this statement only.
use Rattle.std.specs.Prelude.{◌≡◌, ℕ, suc, ◌+◌, ◌-◌, ◌≤◌, Bool, true, false, ◌&&◌, ◌⊎◌, List, [], ◌∷◌, ◌++◌, length, take, is_some, None, Ok, Err, ◌==◌, slice_index}
use Rattle.std.specs.Str.{bytes_eq}
use Rattle.command.specs.declared.fault.Fault.TheVariants.{NotInList}
use Rattle.command.specs.Lists.{commands_of}
use Rattle.reading.specs.Read.{Read, ◌>>=◌}
use Rattle.reading.specs.Commands.{said}
use Rattle.rules.specs.Checks.{◌>>◌}
use Rattle.command.specs.Said.{Addresses, Action, Chooser, Command, act, append_text, edit_file, quit_session, undo_change, global}
use Rattle.rules.specs.Addresses.{Range, whole_or}
use Rattle.rules.specs.Commands.{Outcome, globally, command_line}
use Rattle.rules.specs.Doing.{texts_of, perform}
use Rattle.rules.specs.Effects.{Effect, shows, alters, marks, files, effect_of}
use Rattle.rules.specs.Globals.{one_if, chosen_in, setting, wanted, Run, obeyed, turn, begun, start_of}
use Rattle.rules.specs.Lines.{Line, picked, clean}
use Rattle.rules.specs.Pieces.{Piece, old, new}
use Rattle.rules.specs.Turns.{times, chosen_from, missed}
use Rattle.rules.specs.World.{World, with_text}

-- serials

-- those of a text's lines, in their order, and the first that no line had
pub record Serials : Type 0 where
  pub standing : List ℕ
  pub free : ℕ

abbrev pub in_front : List ℕ → Serials → Serials
in_front ks s = record { standing = ks ++ s.standing; free = s.free }

-- lines that stay keep their serials, created lines get new ones
abbrev pub passed : List ℕ → ℕ → List Piece → Serials
passed ks free [] = record { standing = []; free = free }
passed ks free (old n ∷ ps) = in_front (picked ks n) (passed ks free ps)
passed ks free (new t ∷ ps) = in_front (free ∷ []) (passed ks (suc free) ps)

abbrev pub carried : Effect → Serials → Serials
carried (shows n out) s = s
carried (alters ps n out) s = passed s.standing s.free ps
carried (marks n m) s = s
carried (files f c all out) s = s

abbrev pub action_of : Command → Read Action
action_of (act d) = Ok d
action_of append_text = Err NotInList
action_of quit_session = Err NotInList
action_of undo_change = Err NotInList
action_of (edit_file f) = Err NotInList
action_of (global c l) = Err NotInList

-- what a command of the list does, if it is accepted
abbrev pub effect_in : ℕ → Run → List ℕ → Read Effect
effect_in room s bytes = do
  c ← said (setting s.world true) bytes
  d ← action_of c.command
  e ← effect_of s.world c.addresses d
  perform (room - length s.out) s.world e
  Ok e

abbrev pub carried_if : Read Effect → Serials → Serials
carried_if (Err f) s = s
carried_if (Ok e) s = carried e s

-- through the commands of a turn, up to a fault
abbrev pub along : ℕ → List (List ℕ) → Run → Serials → Serials
along room [] s k = k
along room (c ∷ cs) s k =
    elim (is_some s.fault) [ true ↦ k | false ↦ along room cs (obeyed room s c) (carried_if (effect_in room s c) k) ]

-- turns

-- a moment between two turns: how far the global has come, and the serials of its lines
pub record Moment : Type 0 where
  pub run : Run
  pub serials : Serials

abbrev pub lines_at : Moment → List Line
lines_at m = m.run.world.text.lines

abbrev pub after_turn : ℕ → List (List ℕ) → ℕ → Moment → Moment
after_turn room list n m = record
    { run = turn room list (begun m.run n); serials = along room list (begun m.run n) m.serials }

-- turns from a moment to a moment, by the serials of those that have them: as long as there is no fault, the next turn is that
-- of the line that is chosen and has no chosen line in front
pub data Dealt (room : ℕ) (list : List (List ℕ)) : Moment → List ℕ → Moment → Type 0 where
  over : {m : Moment} → Dealt room list m [] m
  deal : {m r : Moment} {ks : List ℕ} (i : ℕ)
      → m.run.fault ≡ None → chosen_in (take i (lines_at m)) ≡ 0 → chosen_in (picked (lines_at m) (suc i)) ≡ 1
      → Dealt room list (after_turn room list (suc i) m) ks r
      → Dealt room list m (slice_index m.serials.standing i ∷ ks) r

-- the law

abbrev pub numbers_from : ℕ → List Line → List ℕ
numbers_from n [] = []
numbers_from n (l ∷ ls) = n ∷ numbers_from (suc n) ls

abbrev pub start_moment : World → (ℕ → List ℕ → Bool) → Moment
start_moment w want = record
    { run = start_of w want; serials = record { standing = numbers_from 1 w.text.lines; free = suc (length w.text.lines) } }

-- of lines with these serials and texts, how many have this serial and this text
abbrev pub having : ℕ → List ℕ → List ℕ → List (List ℕ) → ℕ
having k t [] ts = 0
having k t (j ∷ js) [] = 0
having k t (j ∷ js) (u ∷ us) = one_if (k == j && bytes_eq t u) + having k t js us

pub record DealtFairly (room : ℕ) (w : World) (want : ℕ → List ℕ → Bool) (list : List (List ℕ)) (o : Outcome) : Type 0 where
  -- whose the turns were, in their order, and the end
  pub owners : List ℕ
  pub end : Moment
  pub history : Dealt room list (start_moment w want) owners end
  pub world : o.world ≡ with_text (clean end.run.world.text) end.run.world
  pub out : o.out ≡ end.run.out
  pub fault : o.fault ≡ end.run.fault
  -- no line has two turns, and only chosen lines have one
  pub once : (k : ℕ) → times k owners ≤ 1
  pub only : (k : ℕ) → 1 ≤ times k owners → 1 ≤ times k (chosen_from want 1 w.text.lines)
  -- without a fault each chosen line had its turn, unless it was removed or rewritten
  pub each : o.fault ≡ None → (k : ℕ) → 1 ≤ times k (chosen_from want 1 w.text.lines)
      → (1 ≤ times k owners) ⊎ (times k end.serials.standing ≡ 0)
  -- the counts that are answered
  pub chosen : o.chosen ≡ length (chosen_from want 1 w.text.lines)
  pub turns : o.turns ≡ length owners
  pub sum : o.chosen ≡ o.turns + missed (chosen_from want 1 w.text.lines) owners
  -- each line has a serial, no two have the same, and one that still has its first serial has its first text
  pub every : length end.serials.standing ≡ length (lines_at end)
  pub apart : (k : ℕ) → times k end.serials.standing ≤ 1
  pub same : (k : ℕ) (t : List ℕ) → k ≤ length w.text.lines
      → having k t end.serials.standing (texts_of (lines_at end)) ≤ having k t (numbers_from 1 w.text.lines) (texts_of w.text.lines)

-- for every text, every choice and every list of commands
abbrev pub GlobalsDealt : Type 0
GlobalsDealt =
    (room : ℕ) (w : World) (want : ℕ → List ℕ → Bool) (list : List (List ℕ)) → DealtFairly room w want list (globally room w want list)

-- of the command line itself: one that reads as a global, with its range in the text
abbrev pub GlobalLinesDealt : Type 0
GlobalLinesDealt =
    (room : ℕ) (w : World) (line : List ℕ) (a : Addresses) (c : Chooser) (list : List ℕ) (r : Range)
    → said (setting w false) line ≡ Ok (record { addresses = a; command = global c list })
    → whole_or w.text a ≡ Ok r
    → DealtFairly room w (wanted c r) (commands_of list) (command_line room w line)
