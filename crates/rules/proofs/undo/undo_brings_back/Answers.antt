use Rattle.rules.proofs.Quieting.{quiet-alters-no_text}
use Rattle.rules.proofs.Undoing.{undo_right, undo_ready, undo-refused}
use Rattle.rules.proofs.undo.undo_brings_back.Goals as goal

pub returns : goal.returns
returns c = record { right = undo_right; ready = undo_ready; refused = undo-refused; quiet = quiet-alters-no_text }
