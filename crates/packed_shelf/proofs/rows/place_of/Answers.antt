use Rattle.std.proofs.Common.{◌≡◌, ℕ, ◌<◌, ◌≢◌, length, get_or, MatchOption, rules}
use Rattle.std.specs.List.{HoldsAt}
use Rattle.packed_shelf.specs.declared.row.Row.{Row}
use Rattle.packed_shelf.specs.Steps.{placed_first}
use Rattle.packed_shelf.proofs.rows.place_of.Goals as goal

pub returns : goal.returns
returns c =
    let rows = c.args.rows.now in
    let found : MatchOption c.position.result ((p : ℕ) (d : Row) → p < length rows → (get_or rows p d).number ≢ c.args.number) (λ p. (p < length rows) × HoldsAt (λ (r : Row). r.number ≡ c.args.number) rows p) = search rules in
    placed_first c.args.number rows c.position.result found
