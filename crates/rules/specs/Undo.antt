-- What `u` brings back, over a session's lines: text, marks and current line as they were just before the last change.
use Rattle.std.specs.Prelude.{◌≡◌, ℕ, suc, false, Some, None, Ok}
use Rattle.shelf.specs.Shelf.{Shelf}
use Rattle.command.specs.declared.fault.Fault.TheVariants.{NothingToUndo}
use Rattle.command.specs.Said.{Addresses, undo_change}
use Rattle.reading.specs.Commands.{said}
use Rattle.rules.specs.Commands.{Kind, alteration, undoing, beginning, putting, stopping, reading, plain}
use Rattle.rules.specs.Doing.{texts_of}
use Rattle.rules.specs.Giving.{Handed, odd_tail, entry_fault, give}
use Rattle.rules.specs.Globals.{setting}
use Rattle.rules.specs.Runs.{opened, given, kind_of, Lived}
use Rattle.rules.specs.World.{World, commands}

-- a kind of line that may come between a change and its undoing: no change, and no accepted `e`
abbrev pub Quiet : Kind → Type 0
Quiet alteration = ⊥
Quiet undoing = ⊥
Quiet beginning = Unit {0}
Quiet putting = ⊥
Quiet stopping = Unit {0}
Quiet reading = ⊥
Quiet plain = Unit {0}

pub data Between : World → World → Type 0 where
  none : {w : World} → Between w w
  more : {w v : World} (h : Handed) → Quiet (kind_of w h) → Between (given w h) v → Between w v

-- the lines behind an `a` up to its `.`, of which n went in
pub data Typed : ℕ → World → World → Type 0 where
  stop : {w : World} (h : Handed) → kind_of w h ≡ stopping → Typed 0 w (given w h)
  put : {n : ℕ} {w v : World} (h : Handed) → kind_of w h ≡ putting → Typed n (given w h) v → Typed (suc n) w v
  refuse : {n : ℕ} {w v : World} (h : Handed) → kind_of w h ≡ plain → Typed n (given w h) v → Typed n w v

-- a change, from just before it to just behind it: one command, a global with a change in it, a `u`, or an `a` with at
-- least one line, up to its `.`
pub data Change : World → World → Type 0 where
  altering : {w : World} (h : Handed) → kind_of w h ≡ alteration → Change w (given w h)
  undone : {w : World} (h : Handed) → kind_of w h ≡ undoing → Change w (given w h)
  typed : {n : ℕ} {w v : World} (h : Handed) → kind_of w h ≡ beginning → Typed (suc n) (given w h) v → Change w v

-- the first accepted `u` behind a change brings back the page from just before it; where the change was a `u`, that from
-- just before that `u`
abbrev pub UndoRight : Type 0
UndoRight =
    (capacity : ℕ) (s : Shelf) (w v x : World) (h : Handed) → Lived (opened capacity s) w → Change w v → Between v x → kind_of x h ≡ undoing
    → (given x h).text ≡ w.text

-- a line in command mode that passes the entry checks and reads as `u`
pub record AsksUndo (x : World) (h : Handed) : Type 0 where
  pub mode : x.mode ≡ commands
  pub passes : entry_fault x h ≡ None
  pub whole : odd_tail false h.line ≡ false
  pub addresses : Addresses
  pub reads : said (setting x false) h.line ≡ Ok (record { addresses = addresses; command = undo_change })

-- behind a change and quiet lines, `u` is accepted
abbrev pub UndoReady : Type 0
UndoReady = (w v x : World) (h : Handed) → Change w v → Between v x → AsksUndo x h → ((give x h).answer.fault ≡ None) × (kind_of x h ≡ undoing)

-- a session with nothing to undo: just opened, or just behind an accepted `e`
pub data Fresh : World → Type 0 where
  opening : (capacity : ℕ) (s : Shelf) → Fresh (opened capacity s)
  editing : (w : World) (h : Handed) → kind_of w h ≡ reading → Fresh (given w h)

-- from there, as long as there is no change, `u` is refused
abbrev pub UndoRefused : Type 0
UndoRefused = (w x : World) (h : Handed) → Fresh w → Between w x → AsksUndo x h → (give x h).answer.fault ≡ Some NothingToUndo

-- a line that may come between a change and its undoing alters marks and current line at most, and no line's text
abbrev pub QuietAltersNoText : Type 0
QuietAltersNoText = (w : World) (h : Handed) → Quiet (kind_of w h) → texts_of (given w h).text.lines ≡ texts_of w.text.lines
