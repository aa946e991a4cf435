-- What a refused line leaves: everything as it was. A global that faults in a turn is the one exception.
use Rattle.std.specs.Prelude.{◌≡◌, Some}
use Rattle.command.specs.declared.fault.Fault.{Fault}
use Rattle.rules.specs.Giving.{Handed, give}
use Rattle.rules.specs.World.{World}

-- text, marks, both current lines, keep, files, remembered name, and whether there is something to undo or to save
pub record Unaltered (w v : World) : Type 0 where
  pub text : v.text ≡ w.text
  pub keep : v.keep ≡ w.keep
  pub shelf : v.shelf ≡ w.shelf
  pub name : v.name ≡ w.name
  pub undoable : v.undoable ≡ w.undoable
  pub unsaved : v.unsaved ≡ w.unsaved

-- a refused line in which no turn of a global had begun
abbrev pub RefusalsAlterNothing : Type 0
RefusalsAlterNothing =
    (w : World) (h : Handed) (f : Fault) → (give w h).answer.fault ≡ Some f → (give w h).answer.turns ≡ 0 → Unaltered w (give w h).world
