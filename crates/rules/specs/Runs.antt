-- A session from its opening on: the world after each line given, and what each line was.
use Rattle.std.specs.Prelude.{ℕ, false, [], None}
use Rattle.shelf.specs.Shelf.{Shelf}
use Rattle.rules.specs.Commands.{Kind}
use Rattle.rules.specs.Giving.{Handed, give}
use Rattle.rules.specs.Lines.{page}
use Rattle.rules.specs.World.{World, commands}

-- a session just opened: text and keep are empty
abbrev pub opened : ℕ → Shelf → World
opened capacity s = record {
  mode = commands;
  text = page [] 0;
  keep = page [] 0;
  capacity = capacity;
  shelf = s;
  name = None;
  undoable = false;
  unsaved = false;
  warned = false;
}

unfoldable pub given : World → Handed → World
given w h = (give w h).world

unfoldable pub kind_of : World → Handed → Kind
kind_of w h = (give w h).kind

-- lines given one after another, whatever they are
pub data Lived : World → World → Type 0 where
  start : {w : World} → Lived w w
  onward : {w v : World} (h : Handed) → Lived w v → Lived w (given v h)
