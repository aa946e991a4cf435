use Rattle.std.proofs.Common.{◌≡◌, ℕ, ◌+◌, ◌-◌, List, take, drop, vec_items, sym, ap, ◌∙◌}
use Rattle.packed_shelf.specs.declared.row.Row.{Row}
use Rattle.packed_shelf.specs.Moves.{start_at, end_at}
use Rattle.packed_shelf.specs.Rows.{total}
use Rattle.packed_shelf.specs.Kept.{placed-contents}
use Rattle.packed_shelf.specs.State.{kept, placed-from}
use Rattle.packed_shelf.proofs.packed.PackedShelf.contents.Goals as goal

pub returns : goal.returns
returns c =
    let s = c.args.self.now in
    let p = c.in_ok-place.place in
    let h = placed-contents (vec_items s.rows) (vec_items s.bytes) (kept s) c.args.file p (placed-from c.in_ok-place.ensures) in
    let a : c.start_of-start.result ≡ start_at (vec_items s.rows) p = c.start_of-start.ensures ∙ ap (λ (rs : List Row). total (take p rs)) c.deref.ensures.value in
    let b : c.start_of-end.result ≡ end_at (vec_items s.rows) p = c.start_of-end.ensures ∙ ap (λ (rs : List Row). total (take (p + 1) rs)) c.deref-2.ensures.value in (
      h.0,
      ap (λ (xs : List ℕ). take (c.start_of-end.result - c.start_of-start.result) (drop c.start_of-start.result xs)) c.deref-3.ensures.value
          ∙ (ap (λ (n : ℕ). take (c.start_of-end.result - n) (drop n (vec_items s.bytes))) a
          ∙ (ap (λ (n : ℕ). take (n - start_at (vec_items s.rows) p) (drop (start_at (vec_items s.rows) p) (vec_items s.bytes))) b
          ∙ sym h.1)),
    )
