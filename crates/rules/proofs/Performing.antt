-- What doing a command of a list leaves: keep, mode and whether there is something to undo as they were, and a tame text.
use Rattle.std.proofs.Common.{◌≡◌, ℕ, leb, length, Ok, Err, refl}
use Rattle.command.specs.declared.fault.Fault.TheVariants.{TooManyLines, LineTooLong, SheetFull}
use Rattle.reading.specs.Read.{Read, ◌>>=◌}
use Rattle.command.specs.Said.{Addresses, Action}
use Rattle.rules.specs.Doing.{Done, short, texts_of, perform, doing}
use Rattle.rules.specs.Effects.{Effect, shows, alters, marks, files, effect_of}
use Rattle.rules.specs.Files.{filed}
use Rattle.rules.specs.Lines.{created}
use Rattle.rules.specs.Pieces.{placed}
use Rattle.rules.specs.World.{World}
use Rattle.rules.proofs.Effecting.{NoneTwice, effect_once}
use Rattle.rules.proofs.Fitting.{Fits, effect_fits}
use Rattle.rules.proofs.Tame.{Tame, tame_current, tame_placed, tame_marked}
use Rattle.rules.proofs.Whenever.{Whenever, whenever_any, whenever_check}

-- what no command of a list touches
pub record Apart (w v : World) : Type 0 where
  pub keep : v.keep ≡ w.keep
  pub mode : v.mode ≡ w.mode
  pub undoable : v.undoable ≡ w.undoable

perform-apart : (room : ℕ) (w : World) (e : Effect) → Whenever (λ d. Apart w d.world) (perform room w e)
unfolding perform
perform-apart room w (shows n out) = whenever_check (λ d. Apart w d.world) (leb (length out) room) SheetFull _ λ _. record { keep = refl; mode = refl; undoable = refl }
perform-apart room w (alters ps n out) =
    whenever_check (λ d. Apart w d.world) (leb (length (placed created w.text.lines ps)) w.capacity) TooManyLines _ λ _.
    whenever_check (λ d. Apart w d.world) (short (texts_of (placed created w.text.lines ps))) LineTooLong _ λ _.
    whenever_check (λ d. Apart w d.world) (leb (length out) room) SheetFull _ λ _. record { keep = refl; mode = refl; undoable = refl }
perform-apart room w (marks n k) = record { keep = refl; mode = refl; undoable = refl }
perform-apart room w (files f c all out) =
    whenever_check (λ d. Apart w d.world) (leb (length out) room) SheetFull _ λ _.
    whenever_any (λ d. Apart w d.world) (filed w.shelf f c) _ λ s. record { keep = refl; mode = refl; undoable = refl }

pub doing-apart : (room : ℕ) (w : World) (a : Addresses) (d : Action) → Whenever (λ e. Apart w e.world) (doing room w a d)
doing-apart room w a d = whenever_any (λ e. Apart w e.world) (effect_of w a d) _ λ e. perform-apart room w e

module _ (c room : ℕ) (w : World) (t : Tame c w.text) where
  abbrev Tamed : Done → Type 0
  Tamed d = Tame c d.world.text

  perform_tame : (e : Effect) → NoneTwice e → Fits w.text e → Whenever Tamed (perform room w e)
  unfolding perform
  perform_tame (shows n out) s h = whenever_check Tamed (leb (length out) room) SheetFull _ λ _. tame_current c w.text n t (h t.within)
  perform_tame (alters ps n out) s h =
      whenever_check Tamed (leb (length (placed created w.text.lines ps)) w.capacity) TooManyLines _ λ _.
      whenever_check Tamed (short (texts_of (placed created w.text.lines ps))) LineTooLong _ λ _.
      whenever_check Tamed (leb (length out) room) SheetFull _ λ _. tame_placed c w.text ps n t s h.0 h.1
  perform_tame (marks n k) s h = tame_marked c w.text n k t
  perform_tame (files f x all out) s h =
      whenever_check Tamed (leb (length out) room) SheetFull _ λ _.
      whenever_any Tamed (filed w.shelf f x) _ λ _. t

  pub doing_tame : (a : Addresses) (d : Action) → Whenever Tamed (doing room w a d)
  doing_tame a d = by (effect_of w a d) (effect_once w a d) (effect_fits w a d)
    where
      by : (x : Read Effect) → Whenever NoneTwice x → Whenever (Fits w.text) x → Whenever Tamed (x >>= perform room w)
      by (Err f) s h = tt
      by (Ok e) s h = perform_tame e s h
