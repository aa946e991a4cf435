-- What a session works on, as a whole: its mode and memory, the text and the keep with their current lines, the shelf.
use Rattle.std.specs.Prelude.{ℕ, Bool, true, not, ◌&&◌, List, Some, None, Option}
use Rattle.shelf.specs.Shelf.{Shelf}
use Rattle.rules.specs.Lines.{Page}

pub data Mode : Type 0 where
  commands : Mode
  -- the bytes gathered so far
  gathering : List ℕ → Mode
  -- the current line from before the `a`, and whether a line has gone in since
  typing : ℕ → Bool → Mode
  ended : Mode

pub record World : Type 0 where
  pub mode : Mode
  pub text : Page
  pub keep : Page
  -- the capacity that the session was opened with
  pub capacity : ℕ
  pub shelf : Shelf
  -- the remembered name
  pub name : Option (List ℕ)
  -- whether there is something to undo
  pub undoable : Bool
  pub unsaved : Bool
  -- whether the last line past the entry checks was refused for unsaved text
  pub warned : Bool

-- a world with one thing changed

abbrev pub with_mode : Mode → World → World
with_mode m w = record { mode = m; text = w.text; keep = w.keep; capacity = w.capacity; shelf = w.shelf; name = w.name; undoable = w.undoable; unsaved = w.unsaved; warned = w.warned }

abbrev pub with_text : Page → World → World
with_text g w = record { mode = w.mode; text = g; keep = w.keep; capacity = w.capacity; shelf = w.shelf; name = w.name; undoable = w.undoable; unsaved = w.unsaved; warned = w.warned }

-- with a kept page, there is something to undo
abbrev pub with_keep : Page → World → World
with_keep k w = record { mode = w.mode; text = w.text; keep = k; capacity = w.capacity; shelf = w.shelf; name = w.name; undoable = true; unsaved = w.unsaved; warned = w.warned }

abbrev pub with_unsaved : Bool → World → World
with_unsaved b w = record { mode = w.mode; text = w.text; keep = w.keep; capacity = w.capacity; shelf = w.shelf; name = w.name; undoable = w.undoable; unsaved = b; warned = w.warned }

abbrev pub with_warned : Bool → World → World
with_warned b w = record { mode = w.mode; text = w.text; keep = w.keep; capacity = w.capacity; shelf = w.shelf; name = w.name; undoable = w.undoable; unsaved = w.unsaved; warned = b }

abbrev pub or_name : Option (List ℕ) → List ℕ → Option (List ℕ)
or_name None n = Some n
or_name (Some m) n = Some m

-- with a file written: its name is remembered if none was, and a whole text is saved
abbrev pub with_file : Shelf → List ℕ → Bool → World → World
with_file s n all w = record { mode = w.mode; text = w.text; keep = w.keep; capacity = w.capacity; shelf = s; name = or_name w.name n; undoable = w.undoable; unsaved = w.unsaved && not all; warned = w.warned }
