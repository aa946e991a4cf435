-- What a session means, with the text, the keep and the shelf that it works on: the world of the rules.
use Rattle.std.specs.Prelude.{ℕ, List}
use Rattle.std.specs.Option.{option_map}
use Rattle.lines.specs.Store.{Store}
use Rattle.short_text.specs.Held.{held}
use Rattle.shelf.specs.Shelf.{Shelf}
use Rattle.shelf.specs.Text.{text_of}
use Rattle.rules.specs.Lines.{page, seen_lines}
use Rattle.rules.specs.World.{World, Mode, commands, gathering, typing, ended}
use Rattle.state.specs.declared.gathered.Gathered.{Gathered}
use Rattle.state.specs.declared.mode.Mode.{Mode as ModeCode}
use Rattle.state.specs.declared.mode.Mode.TheVariants.{Commands, Gathering, Typing, Ended}
use Rattle.state.specs.declared.session.Session.{Session}

abbrev pub gathered_of : Gathered → List ℕ
gathered_of g = held g.lines

abbrev pub mode_of : ModeCode → Mode
mode_of Commands = commands
mode_of (Gathering g) = gathering (gathered_of g)
mode_of (Typing before any) = typing before any
mode_of Ended = ended

abbrev pub world_of : Session → Store → Store → Shelf → World
world_of s t k h = record {
  mode = mode_of s.mode;
  text = page (seen_lines t) s.current;
  keep = page (seen_lines k) s.kept_current;
  capacity = s.capacity;
  shelf = h;
  name = option_map text_of s.name;
  undoable = s.undoable;
  unsaved = s.unsaved;
  warned = s.warned;
}
