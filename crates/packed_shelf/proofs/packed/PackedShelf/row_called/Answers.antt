use Rattle.std.proofs.Common.{List, vec_items, ap, ◌∙◌, subst, rules}
use Rattle.shelf.specs.Text.{text_of}
use Rattle.packed_shelf.specs.declared.row.Row.{Row}
use Rattle.packed_shelf.specs.Rows.{Called, NoneCalled}
use Rattle.packed_shelf.specs.Kept.{lookup-row, lookup_none}
use Rattle.packed_shelf.specs.State.{kept}
use Rattle.packed_shelf.proofs.packed.PackedShelf.row_called.Goals as goal

pub returns : goal.returns
returns c =
    let s = c.args.self.now in
    let n = c.args.name.now in
    let r = c.index.result.now in
    let called = subst (λ (rs : List Row). Called rs n c.in_ok-place.place) c.deref.ensures.value c.in_ok-place.ensures in
    lookup-row (vec_items s.rows) (vec_items s.bytes) (kept s) c.in_ok-place.place r called.within c.index.ensures n
    (ap (λ (x : Row). text_of x.name) c.index.ensures ∙ called.here r)

pub returns-in_err-place : goal.returns-in_err-place
returns-in_err-place c =
    let s = c.args.self.now in
    let n = c.args.name.now in
    let none = lookup_none (vec_items s.rows) (vec_items s.bytes) (kept s) n (subst (λ (rs : List Row). NoneCalled rs n) c.deref.ensures.value c.in_err-place.ensures) in
    search rules
