-- What `w` writes comes back when `e` reads it: the same lines, in the same order.
use Rattle.std.specs.Prelude.{◌≡◌, ℕ, false, List, [], ◌∷◌, Some, Ok}
use Rattle.lines.specs.Line.{holds_break}
use Rattle.shelf.specs.Shelf.{Shelf}
use Rattle.command.specs.Said.{Addresses, FileName, given_name, write_file}
use Rattle.rules.specs.Addresses.{Range, whole_or}
use Rattle.rules.specs.Commands.{read_in}
use Rattle.rules.specs.Doing.{Done, doing, texts_of}
use Rattle.rules.specs.Effects.{name_of}
use Rattle.rules.specs.Files.{filed, contents_of, split}
use Rattle.rules.specs.Lines.{Line, from_to}
use Rattle.rules.specs.Printing.{printed}
use Rattle.rules.specs.World.{World}

-- no line has a break in it, as none has in a line store
abbrev pub Unbroken : List Line → Type 0
Unbroken [] = Unit {0}
Unbroken (l ∷ ls) = (holds_break l.text ≡ false) × Unbroken ls

-- the contents that lines are written as split into the texts of those lines
abbrev pub LinesComeBack : Type 0
LinesComeBack = (ls : List Line) → Unbroken ls → split (printed ls) ≡ texts_of ls

-- a file that was written is found under its name, with these contents
abbrev pub FilesComeBack : Type 0
FilesComeBack =
    (s v : Shelf) (name contents : List ℕ) → filed s name contents ≡ Ok v → contents_of v name ≡ Some contents

-- the lines that an accepted `w` wrote are those that an accepted `e` of that file reads later, whatever the session it is
-- given to, as long as the shelf is as the `w` left it
abbrev pub RoundTrip : Type 0
RoundTrip =
    (room more : ℕ) (w x y : World) (a : Addresses) (f : FileName) (name : List ℕ) (d : Done) (r : Range)
    → Unbroken w.text.lines → whole_or w.text a ≡ Ok r → name_of w f ≡ Ok name
    → doing room w a (write_file f) ≡ Ok d → x.shelf ≡ d.world.shelf → read_in more x (given_name name) ≡ Ok y
    → texts_of y.text.lines ≡ texts_of (from_to r.first r.final w.text.lines)
