-- What holds of a session between any two calls, from its opening on.
use Rattle.std.specs.Prelude.{◌≡◌, ℕ, ◌≤◌, length}
use Rattle.shelf.specs.Shelf.{Shelf}
use Rattle.rules.specs.Globals.{one_if, sum_of, chosen_in}
use Rattle.rules.specs.Lines.{Page, has_mark}
use Rattle.rules.specs.Runs.{opened, Lived}
use Rattle.rules.specs.World.{World}

-- no line is chosen, a mark is on at most one line, and the current line is 0 or a line of the text
pub record Settled (g : Page) : Type 0 where
  pub unchosen : chosen_in g.lines ≡ 0
  pub unique : (k : ℕ) → sum_of (λ l. one_if (has_mark k l)) g.lines ≤ 1
  pub within : g.current ≤ length g.lines

abbrev pub SessionsSettled : Type 0
SessionsSettled = (capacity : ℕ) (s : Shelf) (w : World) → Lived (opened capacity s) w → Settled w.text × Settled w.keep
