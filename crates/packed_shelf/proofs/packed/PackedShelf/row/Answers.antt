use Rattle.std.proofs.Common.{vec_items}
use Rattle.packed_shelf.specs.Kept.{row_of}
use Rattle.packed_shelf.specs.State.{kept, placed-from}
use Rattle.packed_shelf.proofs.packed.PackedShelf.row.Goals as goal

pub returns : goal.returns
returns c =
    let s = c.args.self.now in
    row_of (vec_items s.rows) (vec_items s.bytes) (kept s) c.args.file c.in_ok-place.place (placed-from c.in_ok-place.ensures) c.index.result.now c.index.ensures
