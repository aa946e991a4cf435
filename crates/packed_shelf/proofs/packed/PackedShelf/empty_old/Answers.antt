use Rattle.std.proofs.Common.{ℕ, ◌+◌, ◌-◌, ◌<◌, ◌≤◌, cond, length, is_ok, vec_items, Result, sym, ap, ◌∙◌, arith, rules}
use Rattle.std.proofs.lemmas.Option.{MatchOption-at_some}
use Rattle.shelf.specs.declared.fault.ShelfFault.{ShelfFault}
use Rattle.shelf.specs.Shelf.{with_files}
use Rattle.packed_shelf.specs.Clearing.{old_emptied}
use Rattle.packed_shelf.specs.Packed.{packed}
use Rattle.packed_shelf.specs.Rows.{total}
use Rattle.packed_shelf.specs.After.{old_held}
use Rattle.packed_shelf.proofs.Answered.{old_full, old_fits}
use Rattle.packed_shelf.specs.Kept.{held_is}
use Rattle.packed_shelf.specs.State.{kept, placed-from, emptied_left}
use Rattle.packed_shelf.proofs.packed.PackedShelf.empty_old.Goals as goal

pub returns-then-size-free : goal.returns-then-size-free
returns-then-size-free c =
    let s = c.args.self.now in
    let rows = vec_items s.rows in
    let bytes = vec_items s.bytes in
    let r = c.index.result.now in
    let placed = placed-from (MatchOption-at_some _ _ _ c.in_ok-place.ensures.ok_part c.place.ensures) in
    let h = held_is rows bytes (kept s) in
    let o = old_held rows bytes (kept s) c.args.file c.in_ok-place.place placed r c.index.ensures in
    let over : length bytes < total rows - r.size + c.args.size = omega arith in
    let a = old_full rows bytes (kept s) c.args.file c.in_ok-place.place placed r c.index.ensures c.args.size over in
    search rules

pub invariant_of-self-2 : goal.invariant_of-self-2
invariant_of-self-2 c =
    let s = c.args.self.now in
    let k = (emptied_left s c.args.file c.in_ok-place.place (placed-from (MatchOption-at_some _ _ _ c.in_ok-place.ensures.ok_part c.place.ensures)) _ c.empty_file.new.rows _ c.empty_file.new.bytes
    c.deref_mut.ensures.value c.deref_mut-2.ensures.value c.empty_file.ensures.rows c.empty_file.ensures.bytes).0 in
    record {
      few = k.few;
      reserved = s.reserved;
      bounded = k.bounded;
      within = k.within;
      numbered = k.numbered;
      named = k.named;
      apart = k.apart;
    }

pub returns : goal.returns
returns c =
    let s = c.args.self.now in
    let rows = vec_items s.rows in
    let bytes = vec_items s.bytes in
    let r = c.index.result.now in
    let placed = placed-from (MatchOption-at_some _ _ _ c.in_ok-place.ensures.ok_part c.place.ensures) in
    let h = held_is rows bytes (kept s) in
    let o = old_held rows bytes (kept s) c.args.file c.in_ok-place.place placed r c.index.ensures in
    let room : total rows - r.size + c.args.size ≤ length bytes = omega arith in
    let a = old_fits rows bytes (kept s) c.args.file c.in_ok-place.place placed r c.index.ensures c.args.size room in
    let t = packed rows bytes in
    record {
      value = sym a;
      after =
          (emptied_left s c.args.file c.in_ok-place.place placed _ c.empty_file.new.rows _ c.empty_file.new.bytes
          c.deref_mut.ensures.value c.deref_mut-2.ensures.value c.empty_file.ensures.rows c.empty_file.ensures.bytes).1
          ∙ sym (ap (λ (q : Result ℕ ShelfFault). cond (is_ok q) (with_files t (old_emptied t c.args.file)) t) a);
    }
