use Rattle.std.proofs.Common.{◌≡◌, List, subst, MatchOption}
use Rattle.packed_shelf.specs.declared.row.Row.{Row}
use Rattle.packed_shelf.specs.Rows.{bearing, Placed}
use Rattle.packed_shelf.specs.State.{found_from}
use Rattle.packed_shelf.proofs.packed.PackedShelf.place.Goals as goal

pub returns : goal.returns
returns c =
    let k = c.args.file in
    let o = c.place_of.result in
    found_from c.args.self.now k o (subst (λ (rs : List Row). MatchOption o (bearing k rs ≡ 0) (λ p. Placed rs k p)) c.deref.ensures.value c.place_of.ensures)
