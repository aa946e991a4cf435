use Rattle.std.proofs.Common.{◌≡◌, true, vec_items, sym, refl, ◌∙◌}
use Rattle.shelf.specs.Name.{is_name}
use Rattle.packed_shelf.specs.Packed.{packed}
use Rattle.packed_shelf.proofs.Answered.{clear_old}
use Rattle.packed_shelf.specs.Kept.{packed-sound}
use Rattle.packed_shelf.specs.State.{kept}
use Rattle.packed_shelf.proofs.files.PackedShelfShelf.clear.Goals as goal

pub returns-in-Some : goal.returns-in-Some
returns-in-Some c =
    let s = c.args.self.now in
    let t = packed (vec_items s.rows) (vec_items s.bytes) in
    let good : is_name c.args.name.now ≡ true = sym c.is_name.ensures ∙ c.if-not-is_name.false in
    let h = clear_old t c.args.name.now c.args.size good refl c.in-Some.file (packed-sound (vec_items s.rows) (vec_items s.bytes) (kept s)).few (sym c.in-Some.ensures) in
    record { value = c.empty_old.ensures.value ∙ sym h.0; after = c.empty_old.ensures.after ∙ sym h.1 }
