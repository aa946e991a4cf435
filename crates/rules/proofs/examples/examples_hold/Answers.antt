use Rattle.std.proofs.Common.{refl}
use Rattle.rules.proofs.Opened.{all-open}
use Rattle.rules.proofs.examples.examples_hold.Goals as goal

pub returns : goal.returns
unfolding all-open
returns c = record {
  reversed = (refl, refl);
  next_deleted = (refl, refl);
  turns_by_line = (refl, refl);
  dashes = refl;
  given_back = refl;
  undone = (refl, refl, refl);
  keep_unchosen = (refl, refl, refl, refl);
  full_line = (refl, refl, refl);
  marked = (refl, refl);
  reckoned_in_order = (refl, refl, refl);
  warned = (refl, refl);
  gathered = (refl, refl);
  typed_in = (refl, refl);
  faulted = (refl, refl, refl);
  moved = (refl, refl);
  whole_session = (refl, refl, refl);
}
