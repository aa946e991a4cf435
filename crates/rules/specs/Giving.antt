-- Giving a line: the entry checks, then what the line does by the mode and the line together; the answer and the sheet.
use Rattle.std.specs.Prelude.{ℕ, suc, ◌-◌, Bool, true, false, not, ◌&&◌, ◌||◌, List, [], ◌∷◌, ◌++◌, length, drop, Some, None, Option, ◌==◌, nat_lt}
use Rattle.std.specs.Str.{bytes_eq}
use Rattle.lines.specs.Line.{holds_break}
use Rattle.command.specs.declared.fault.Fault.{Fault}
use Rattle.command.specs.declared.fault.Fault.TheVariants as fault
use Rattle.command.specs.Numbers.{number_of}
use Rattle.rules.specs.Commands.{Kind, putting, stopping, plain, Outcome, accepted, refusal, command_line}
use Rattle.rules.specs.Doing.{kept_if}
use Rattle.rules.specs.Lines.{Page, page, unchosen, created}
use Rattle.rules.specs.Pieces.{new, stay, placed}
use Rattle.rules.specs.World.{World, Mode, commands, gathering, typing, ended, with_mode, with_text, with_unsaved, with_warned}

-- whether a run of `\` of odd length stands at the end; `odd` says so of what stands in front
abbrev pub odd_tail : Bool → List ℕ → Bool
odd_tail odd [] = odd
odd_tail odd (b ∷ bs) = odd_tail (b == 92 && not odd) bs

-- a command line, or bytes gathered so far
abbrev pub commanded : ℕ → World → List ℕ → Outcome
commanded room w bytes = elim (odd_tail false bytes) [
  | true ↦ accepted plain (with_mode (gathering bytes) w) []
  | false ↦ command_line room (with_mode commands w) bytes
]

abbrev pub gathered : ℕ → World → List ℕ → Outcome
gathered room w joined = elim (nat_lt 1000 (length joined)) [
  | true ↦ refusal (with_mode commands w) fault.CommandTooLong
  | false ↦ commanded room w joined
]

-- the text with a line typed in behind the current one
abbrev pub typed_in : Page → List ℕ → Page
typed_in g line = page (placed created g.lines (stay 1 g.current ++ (new line ∷ stay (suc g.current) (length g.lines)))) (suc g.current)

-- a line in text mode: the first that goes in fills the keep, with the current line from before the `a`
abbrev pub typed : World → ℕ → Bool → List ℕ → Outcome
typed w before any line =
    elim (bytes_eq line (46 ∷ [])) [
      | true ↦ accepted stopping (with_mode commands w) []
      | false ↦
          elim (nat_lt (length w.text.lines) w.capacity) [
            | false ↦ refusal w fault.TextFull
            | true ↦
                accepted putting
                (kept_if (not any) (page (unchosen w.text.lines) before)
                (with_mode (typing before true) (with_unsaved true (with_text (typed_in w.text line) w)))) []
          ]
    ]

abbrev pub by_mode : ℕ → World → List ℕ → Mode → Outcome
by_mode room w line commands = commanded room w line
by_mode room w line (gathering g) = gathered room w (g ++ (10 ∷ line))
by_mode room w line (typing before any) = typed w before any line
by_mode room w line ended = refusal w fault.SessionEnded

-- a line past the entry checks
unfoldable pub entered : ℕ → World → List ℕ → Outcome
entered room w line = by_mode room w line w.mode

abbrev pub is_ended : Mode → Bool
is_ended commands = false
is_ended (gathering g) = false
is_ended (typing b a) = false
is_ended ended = true

-- what is handed in with a line: the capacities of text and keep, the line and the sheet
pub record Handed : Type 0 where
  pub text_capacity : ℕ
  pub keep_capacity : ℕ
  pub line : List ℕ
  pub sheet : List ℕ

abbrev pub first_of : List (Bool × Fault) → Option Fault
first_of [] = None
first_of (c ∷ cs) = elim c.0 [ true ↦ Some c.1 | false ↦ first_of cs ]

-- the entry checks, in their order
abbrev pub entry_fault : World → Handed → Option Fault
entry_fault w h = first_of
    ((nat_lt (length h.sheet) 1200, fault.SheetTooShort)
    ∷ (holds_break h.line, fault.BreakInLine)
    ∷ (nat_lt 255 (length h.line), fault.InputTooLong)
    ∷ (is_ended w.mode, fault.SessionEnded)
    ∷ (not (h.text_capacity == w.capacity && h.keep_capacity == w.capacity), fault.WrongStores)
    ∷ (nat_lt (length w.text.lines) w.text.current || nat_lt (length w.keep.lines) w.keep.current, fault.WrongStores)
    ∷ [])

pub record Answer : Type 0 where
  pub fault : Option Fault
  pub bytes : ℕ
  pub chosen : ℕ
  pub turns : ℕ
  pub ended : Bool

pub record Reply : Type 0 where
  pub answer : Answer
  pub sheet : List ℕ
  pub world : World
  pub kind : Kind

abbrev pub question_mark : Option Fault → List ℕ
question_mark None = []
question_mark (Some f) = 63 ∷ 10 ∷ []

-- the refusal that warns
abbrev pub warns : Option Fault → Bool
warns None = false
warns (Some f) = number_of f == 35

abbrev pub answered : World → List ℕ → Outcome → Reply
answered w sheet o =
    let out : List ℕ = o.out ++ question_mark o.fault in
    record {
      answer = record { fault = o.fault; bytes = length out; chosen = o.chosen; turns = o.turns; ended = is_ended o.world.mode };
      sheet = out ++ drop (length out) sheet;
      world = with_warned (warns o.fault) o.world;
      kind = o.kind;
    }

-- a line that the entry checks refuse alters nothing
abbrev pub turned_away : World → List ℕ → Fault → Reply
turned_away w sheet f = record
    { answer = record { fault = Some f; bytes = 0; chosen = 0; turns = 0; ended = is_ended w.mode }; sheet = sheet; world = w; kind = plain }

unfoldable pub give : World → Handed → Reply
give w h = elim (entry_fault w h) [
  | Some f ↦ turned_away w h.sheet f
  | None ↦ answered w h.sheet (entered (length h.sheet - 16) w h.line)
]
