use Rattle.std.proofs.Common.{ℕ, ◌+◌, ◌<◌, ◌≤◌, cond, List, [], ◌∷◌, ◌++◌, length, is_ok, Ok, vec_items, Result, sym, refl, ap, ◌∙◌, subst, arith, rules}
use Rattle.std.proofs.lemmas.Option.{MatchOption-at_some}
use Rattle.shelf.specs.declared.fault.ShelfFault.{ShelfFault}
use Rattle.shelf.specs.Shelf.{with_files}
use Rattle.shelf.proofs.Lookup.{none_named}
use Rattle.packed_shelf.specs.declared.row.Row.{Row}
use Rattle.packed_shelf.specs.Clearing.{new_made}
use Rattle.packed_shelf.specs.Packed.{packed}
use Rattle.packed_shelf.specs.Rows.{total}
use Rattle.packed_shelf.specs.After.{new_after_lem, new_kept}
use Rattle.packed_shelf.proofs.Answered.{new_fits}
use Rattle.packed_shelf.specs.Kept.{Kept, held_is}
use Rattle.packed_shelf.specs.State.{kept}
use Rattle.packed_shelf.proofs.packed.PackedShelf.make_new.Goals as goal

pub invariant_of-self : goal.invariant_of-self
invariant_of-self c =
    let s = c.args.self.now in
    let rows = vec_items s.rows in
    let bytes = vec_items s.bytes in
    let r : Row = record { number = c.len-number.result; name = c.in_ok-label.label; size = 0 } in
    let m = s.rows.ok.0 in
    let few = s.few in
    let free : length rows < 8 = omega arith in
    let k : Kept (rows ++ r ∷ []) bytes =
    new_kept rows bytes (kept s) r c.args.name.now (c.len-number.ensures ∙ m) (MatchOption-at_some _ _ _ c.in_ok-label.ensures.ok_part c.new.ensures).1 refl free c.requires.good
    (none_named (packed rows bytes) c.args.name.now c.requires.missing) in
    let q : Kept (vec_items c.push_reserved.new.self) bytes = subst (λ (rs : List Row). Kept rs bytes) (sym c.push_reserved.ensures.items) k in
    record {
      few = q.few;
      reserved = search rules;
      bounded = q.bounded;
      within = q.within;
      numbered = q.numbered;
      named = q.named;
      apart = q.apart;
    }

pub returns : goal.returns
returns c =
    let s = c.args.self.now in
    let rows = vec_items s.rows in
    let bytes = vec_items s.bytes in
    let r : Row = record { number = c.len-number.result; name = c.in_ok-label.label; size = 0 } in
    let n = c.args.name.now in
    let m = s.rows.ok.0 in
    let few = s.few in
    let h = held_is rows bytes (kept s) in
    let free : length rows < 8 = omega arith in
    let room : total rows + c.args.size ≤ length bytes = omega arith in
    let a = new_fits rows bytes (kept s) n c.args.size free room in
    let t = packed rows bytes in
    record {
      value = ap Ok (c.len-number.ensures ∙ m) ∙ sym a;
      after =
          ap (λ (rs : List Row). packed rs bytes) c.push_reserved.ensures.items
          ∙ (new_after_lem rows bytes (kept s) r n (c.len-number.ensures ∙ m) (MatchOption-at_some _ _ _ c.in_ok-label.ensures.ok_part c.new.ensures).1 refl
          ∙ sym (ap (λ (q : Result ℕ ShelfFault). cond (is_ok q) (with_files t (new_made t n)) t) a));
    }
