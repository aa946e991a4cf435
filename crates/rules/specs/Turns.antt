-- What a global promises of its turns, over the whole of it. At its start each line gets a serial, its number in the text, and
-- each line created later gets the next one that no line had. Serials are held in no store: they exist in this statement only.
use Rattle.std.specs.Prelude.{◌≡◌, ℕ, suc, ◌+◌, ◌<◌, ◌≤◌, Bool, true, false, ◌&&◌, ◌⊎◌, List, [], ◌∷◌, map, length, Some, None, Ok, Option, ◌==◌}
use Rattle.std.specs.Str.{bytes_eq}
use Rattle.reading.specs.Commands.{said}
use Rattle.command.specs.Said.{Addresses, Chooser, global}
use Rattle.rules.specs.Addresses.{Range, whole_or}
use Rattle.rules.specs.Commands.{Outcome, globally, command_line}
use Rattle.rules.specs.Globals.{one_if, sum_of, setting, wanted}
use Rattle.rules.specs.Lines.{Line}
use Rattle.rules.specs.World.{World}

-- a line as this statement knows it: its serial, its text, and whether it waits for its turn
pub record Known : Type 0 where
  pub serial : ℕ
  pub text : List ℕ
  pub waits : Bool

-- how many lines of a text have this serial; this serial and this text
abbrev pub standing : ℕ → List Known → ℕ
standing k ks = sum_of (λ x. one_if (k == x.serial)) ks

abbrev pub holding : ℕ → List ℕ → List Known → ℕ
holding k t ks = sum_of (λ x. one_if (k == x.serial && bytes_eq t x.text)) ks

-- how often a number is in a list
abbrev pub times : ℕ → List ℕ → ℕ
times k ns = sum_of (λ n. one_if (k == n)) ns

-- a turn: whose it is, the text when it begins and when it ends, and the first serial that no line had by then
pub record Turn : Type 0 where
  pub whose : ℕ
  pub before : List Known
  pub after : List Known
  pub free : ℕ

abbrev pub owners : List Turn → List ℕ
owners ts = map (λ t. t.whose) ts

-- whose turn is next: the first waiting line's
abbrev pub first_waiting : List Known → Option ℕ
first_waiting [] = None
first_waiting (x ∷ xs) = elim x.waits [ true ↦ Some x.serial | false ↦ first_waiting xs ]

-- no serial stands twice, and those from `free` on do not stand
abbrev pub Numbered : ℕ → List Known → Type 0
Numbered free ks = ((k : ℕ) → standing k ks ≤ 1) × ((k : ℕ) → free ≤ k → standing k ks ≡ 0)

-- the turns in their order, from a text to a text: each is that of the first waiting line, and a line that stands after it
-- with a serial given before stood there before it too, with that serial and the same text
abbrev pub Course : ℕ → List Known → List Turn → List Known → Type 0
Course free from [] to = from ≡ to
Course free from (t ∷ ts) to =
    (from ≡ t.before)
    × (first_waiting t.before ≡ Some t.whose)
    × ((k : ℕ) (b : List ℕ) → k < free → holding k b t.after ≤ holding k b t.before)
    × Numbered t.free t.after
    × (free ≤ t.free)
    × Course t.free t.after ts to

-- a line that stood when some turn began and not when it ended: it was removed or rewritten
abbrev pub Lost : ℕ → List Turn → Type 0
Lost k [] = ⊥
Lost k (t ∷ ts) = ((1 ≤ standing k t.before) × (standing k t.after ≡ 0)) ⊎ Lost k ts

-- the chosen lines, by their numbers
abbrev pub chosen_from : (ℕ → List ℕ → Bool) → ℕ → List Line → List ℕ
chosen_from want n [] = []
chosen_from want n (l ∷ ls) = elim (want n l.text) [ true ↦ n ∷ chosen_from want (suc n) ls | false ↦ chosen_from want (suc n) ls ]

-- the lines as the global finds them: those that it chooses wait
abbrev pub known_from : (ℕ → List ℕ → Bool) → ℕ → List Line → List Known
known_from want n [] = []
known_from want n (l ∷ ls) = record { serial = n; text = l.text; waits = want n l.text } ∷ known_from want (suc n) ls

-- how many of the chosen lines had no turn
abbrev pub missed : List ℕ → List ℕ → ℕ
missed chosen had = sum_of (λ k. one_if (times k had == 0)) chosen

pub record Fair (want : ℕ → List ℕ → Bool) (start : List Line) (o : Outcome) : Type 0 where
  pub turns : List Turn
  pub final : List Known
  pub course : Course (suc (length start)) (known_from want 1 start) turns final
  pub ends : map (λ x. x.text) final ≡ map (λ l. l.text) o.world.text.lines
  -- no line has two turns, and only chosen lines have one
  pub once : (k : ℕ) → times k (owners turns) ≤ 1
  pub only : (k : ℕ) → 1 ≤ times k (owners turns) → 1 ≤ times k (chosen_from want 1 start)
  -- without a fault each chosen line had its turn, unless an earlier turn removed or rewrote it
  pub each : o.fault ≡ None → (k : ℕ) → 1 ≤ times k (chosen_from want 1 start) → (1 ≤ times k (owners turns)) ⊎ Lost k turns
  -- the counts that are answered
  pub chosen : o.chosen ≡ length (chosen_from want 1 start)
  pub begun : o.turns ≡ length turns
  pub sum : o.chosen ≡ o.turns + missed (chosen_from want 1 start) (owners turns)

-- for every text, every choice and every list of commands
abbrev pub GlobalsFair : Type 0
GlobalsFair =
    (room : ℕ) (w : World) (want : ℕ → List ℕ → Bool) (list : List (List ℕ)) → Fair want w.text.lines (globally room w want list)

-- of the command line itself: one that reads as a global, with its range in the text, is fair
abbrev pub GlobalLinesFair : Type 0
GlobalLinesFair =
    (room : ℕ) (w : World) (line : List ℕ) (a : Addresses) (c : Chooser) (list : List ℕ) (r : Range)
    → said (setting w false) line ≡ Ok (record { addresses = a; command = global c list })
    → whole_or w.text a ≡ Ok r
    → Fair (wanted c r) w.text.lines (command_line room w line)
