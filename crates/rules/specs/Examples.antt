-- Worked examples, as one joint statement: lines given to a session, and what they must come to.
use Rattle.std.specs.Prelude.{◌≡◌, ℕ, true, false, List, [], ◌∷◌, ◌++◌, map, length, take, replicate, Some, None, codes, Option}
use Rattle.shelf.specs.Shelf.{Shelf}
use Rattle.command.specs.declared.fault.Fault.{Fault}
use Rattle.command.specs.declared.fault.Fault.TheVariants.{InputTooLong, CommandTooLong, BadCommand, NoMark, NoMatch, Unsaved, NothingToUndo, TooManyLines, LineTooLong, SheetFull, DestinationInRange}
use Rattle.rules.specs.Doing.{texts_of}
use Rattle.rules.specs.Giving.{Handed, Reply, give}
use Rattle.rules.specs.Globals.{chosen_in}
use Rattle.rules.specs.Lines.{page, created}
use Rattle.rules.specs.World.{World, commands}

-- the session that the examples are given to: an empty shelf, and these lines, the last of them current
abbrev pub empty_shelf : Shelf
empty_shelf = record { files = []; capacity = 60000; protects = λ n. false }

abbrev pub holding : ℕ → List (List ℕ) → World
holding capacity ts = record {
  mode = commands;
  text = page (map created ts) (length ts);
  keep = page [] 0;
  capacity = capacity;
  shelf = empty_shelf;
  name = None;
  undoable = false;
  unsaved = false;
  warned = false;
}

abbrev pub on : List (List ℕ) → World
on ts = holding 240 ts

-- bytes handed in with a sheet of the least length, over stores of the session's capacity
abbrev pub handing : World → List ℕ → Handed
handing w bytes = record { text_capacity = w.capacity; keep_capacity = w.capacity; line = bytes; sheet = replicate 1200 0 }

abbrev pub reply : World → List ℕ → Reply
reply w bytes = give w (handing w bytes)

-- lines given one after another: the world behind them, and the fault of each
abbrev pub after : List (List ℕ) → World → World
after [] w = w
after (l ∷ ls) w = after ls (reply w l).world

abbrev pub faults : List (List ℕ) → World → List (Option Fault)
faults [] w = []
faults (l ∷ ls) w = (reply w l).answer.fault ∷ faults ls (reply w l).world

abbrev pub texts : World → List (List ℕ)
texts w = texts_of w.text.lines

abbrev pub printed_by : World → List ℕ → List ℕ
printed_by w bytes = take (reply w bytes).answer.bytes (reply w bytes).sheet

abbrev pub counts : World → List ℕ → ℕ × ℕ
counts w bytes = ((reply w bytes).answer.chosen, (reply w bytes).answer.turns)

-- a global moves each line in front of all
abbrev pub Reversed : Type 0
Reversed =
    let w = on (codes "one" ∷ codes "two" ∷ codes "three" ∷ []) in
    (texts (after (codes "g/^/m0" ∷ []) w) ≡ codes "three" ∷ codes "two" ∷ codes "one" ∷ []) × (counts w (codes "g/^/m0") ≡ (3, 3))

-- a line that an earlier turn deletes has none
abbrev pub NextDeleted : Type 0
NextDeleted =
    let w = on (codes "a1" ∷ codes "a2" ∷ codes "b" ∷ []) in
    (texts (after (codes "g/a/+1d" ∷ []) w) ≡ codes "a1" ∷ codes "b" ∷ []) × (counts w (codes "g/a/+1d") ≡ (2, 1))

-- turns go by line and not by number: the second line has its turn, though it is line 1 by then
abbrev pub TurnsByLine : Type 0
TurnsByLine =
    let w = on (codes "a" ∷ codes "a" ∷ codes "b" ∷ []) in
    (texts (after (codes "g/a/d" ∷ []) w) ≡ codes "b" ∷ []) × (counts w (codes "g/a/d") ≡ (2, 2))

-- empty matches, and one right behind a match, which does not count
abbrev pub Dashes : Type 0
Dashes = texts (after (codes "s/a*/-/g" ∷ []) (on (codes "baaac" ∷ []))) ≡ codes "-b-c-" ∷ []

-- items that took what they can give bytes back
abbrev pub GivenBack : Type 0
GivenBack = texts (after (codes "s/a*ab/X/" ∷ []) (on (codes "aabc" ∷ []))) ≡ codes "Xc" ∷ []

abbrev pub Undone : Type 0
Undone =
    let w = on (codes "x" ∷ []) in
    ((after (codes "d" ∷ []) w).text.current ≡ 0)
    × ((after (codes "d" ∷ codes "u" ∷ []) w).text.current ≡ 1)
    × ((after (codes "d" ∷ codes "u" ∷ codes "u" ∷ []) w).text.current ≡ 0)

-- the keep has no chosen line, so `u` brings none back
abbrev pub KeepUnchosen : Type 0
KeepUnchosen =
    let w = after (codes "g/a/s/b/c/" ∷ []) (on (codes "ab" ∷ codes "a" ∷ codes "ab" ∷ [])) in
    (texts w ≡ codes "ac" ∷ codes "a" ∷ codes "ab" ∷ [])
    × (chosen_in w.text.lines ≡ 0) × (chosen_in w.keep.lines ≡ 0)
    × (chosen_in (after (codes "u" ∷ []) w).text.lines ≡ 0)

abbrev pub FullLine : Type 0
FullLine =
    (faults (codes "s/$/z/" ∷ []) (on (replicate 254 120 ∷ [])) ≡ None ∷ [])
    × (texts (after (codes "s/$/z/" ∷ []) (on (replicate 254 120 ∷ []))) ≡ (replicate 254 120 ++ (122 ∷ [])) ∷ [])
    × (faults (codes "s/$/z/" ∷ []) (on (replicate 255 120 ∷ [])) ≡ Some LineTooLong ∷ [])

-- a mark stays with its line until the line is rewritten
abbrev pub Marked : Type 0
Marked =
    let w = after (codes "2ka" ∷ codes "1d" ∷ []) (on (codes "p" ∷ codes "q" ∷ [])) in
    (printed_by w (codes "'a=") ≡ codes "1" ++ (10 ∷ []))
    × (faults (codes "'as/q/r/" ∷ codes "'a" ∷ []) w ≡ None ∷ Some NoMark ∷ [])

-- more lines than the capacity, then a line too long, then too much output
abbrev pub ReckonedInOrder : Type 0
ReckonedInOrder =
    (faults (codes "s/$/x\\" ∷ codes "y/p" ∷ []) (holding 1 (replicate 255 120 ∷ [])) ≡ None ∷ Some TooManyLines ∷ [])
    × (faults (codes "1,5s/$/xy/p" ∷ []) (holding 5 (replicate 5 (replicate 254 120))) ≡ Some LineTooLong ∷ [])
    × (faults (codes "1,5p" ∷ []) (holding 5 (replicate 5 (replicate 254 120))) ≡ Some SheetFull ∷ [])

-- the warning lasts over a line that the entry checks refuse, and over no other
abbrev pub Warned : Type 0
Warned =
    let w = after (codes "s/x/y/" ∷ []) (on (codes "x" ∷ [])) in
    (faults (codes "q" ∷ replicate 256 120 ∷ codes "q" ∷ []) w ≡ Some Unsaved ∷ Some InputTooLong ∷ None ∷ [])
    × (faults (codes "q" ∷ codes "p" ∷ codes "q" ∷ []) w ≡ Some Unsaved ∷ None ∷ Some Unsaved ∷ [])

-- gathered bytes: 1,000 with the breaks are obeyed, 1,001 dropped
abbrev pub Gathered : Type 0
Gathered =
    let l = replicate 249 120 ++ (92 ∷ []) in
    (faults (l ∷ l ∷ l ∷ replicate 247 120 ∷ []) (on []) ≡ None ∷ None ∷ None ∷ Some BadCommand ∷ [])
    × (faults (l ∷ l ∷ l ∷ replicate 248 120 ∷ codes "=" ∷ []) (on []) ≡ None ∷ None ∷ None ∷ Some CommandTooLong ∷ None ∷ [])

-- an `a` with its lines is one change; one without a line is none
abbrev pub TypedInExample : Type 0
TypedInExample =
    let w = on (codes "1" ∷ codes "2" ∷ []) in
    (texts (after (codes "a" ∷ codes "3" ∷ codes "4" ∷ codes "." ∷ codes "u" ∷ []) w) ≡ texts w)
    × (faults (codes "a" ∷ codes "." ∷ codes "u" ∷ []) w ≡ None ∷ None ∷ Some NothingToUndo ∷ [])

-- what a faulted global did stands, and one `u` brings all back
abbrev pub Faulted : Type 0
Faulted =
    let w = on (codes "a1" ∷ codes "b" ∷ codes "a2" ∷ []) in
    let l = codes "g/a/d\\" ∷ codes "s/x/y/" ∷ [] in
    (faults l w ≡ None ∷ Some NoMatch ∷ [])
    × (texts (after l w) ≡ codes "b" ∷ codes "a2" ∷ [])
    × (texts (after (codes "u" ∷ []) (after l w)) ≡ texts w)

-- lines moved, and to the place where they stand already
abbrev pub Moved : Type 0
Moved =
    let w = on (codes "1" ∷ codes "2" ∷ codes "3" ∷ []) in
    (texts (after (codes "1,2m3" ∷ []) w) ≡ codes "3" ∷ codes "1" ∷ codes "2" ∷ [])
    × (faults (codes "2m2" ∷ codes "2m1" ∷ codes "u" ∷ []) w ≡ Some DestinationInRange ∷ None ∷ None ∷ [])

-- a session from its opening to its end
abbrev pub WholeSession : Type 0
WholeSession =
    let w = after (codes "a" ∷ codes "bad" ∷ codes "." ∷ []) (on []) in
    (printed_by w (codes "s/a/o/p") ≡ codes "bod" ++ (10 ∷ []))
    × (printed_by (after (codes "s/a/o/p" ∷ []) w) (codes "w out") ≡ codes "4" ++ (10 ∷ []))
    × ((reply (after (codes "s/a/o/p" ∷ codes "w out" ∷ []) w) (codes "q")).answer.ended ≡ true)

pub record Examples : Type 0 where
  pub reversed : Reversed
  pub next_deleted : NextDeleted
  pub turns_by_line : TurnsByLine
  pub dashes : Dashes
  pub given_back : GivenBack
  pub undone : Undone
  pub keep_unchosen : KeepUnchosen
  pub full_line : FullLine
  pub marked : Marked
  pub reckoned_in_order : ReckonedInOrder
  pub warned : Warned
  pub gathered : Gathered
  pub typed_in : TypedInExample
  pub faulted : Faulted
  pub moved : Moved
  pub whole_session : WholeSession
