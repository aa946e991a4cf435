use Rattle.std.proofs.Common.{vec_items, arith}
use Rattle.packed_shelf.specs.Kept.{held_is}
use Rattle.packed_shelf.specs.State.{kept}
use Rattle.packed_shelf.proofs.packed.PackedShelf.free.Goals as goal

pub returns : goal.returns
returns c =
    let s = c.args.self.now in
    let h = held_is (vec_items s.rows) (vec_items s.bytes) (kept s) in
    let n = s.bytes.ok.0 in
    let w = s.within in
    omega arith
