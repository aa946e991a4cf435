-- What a packed shelf keeps, read off its ghost fields; and what it means and keeps once its rows and bytes were lent to a move.
use Rattle.std.specs.Prelude.{◌≡◌, ℕ, ◌+◌, ◌≤◌, false, List, length, Some, None, vec_items, Option, Vec, MatchOption}
use Rattle.std.proofs.Common.{sym, ap, ◌∙◌, subst, arith}
use Rattle.std.specs.Vec.{with_items}
use Rattle.std.proofs.lemmas.List.{with_items_is}
use Rattle.shelf.specs.Shelf.{Shelf, with_files, present, added}
use Rattle.packed_shelf.specs.declared.packed.PackedShelf.{PackedShelf}
use Rattle.packed_shelf.specs.declared.row.Row.{Row}
use Rattle.packed_shelf.specs.Clearing.{old_emptied}
use Rattle.packed_shelf.specs.Finding.{Found}
use Rattle.packed_shelf.specs.Meaning.{meaning_of}
use Rattle.packed_shelf.specs.Moves.{rows_emptied, bytes_emptied, rows_lengthened, bytes_lengthened}
use Rattle.packed_shelf.specs.Packed.{files_of, packed}
use Rattle.packed_shelf.specs.Rows.{total, bearing, Placed}
use Rattle.packed_shelf.specs.After.{old-long, old_after_lem, old_kept, longer-long, longer_after, longer_kept}
use Rattle.packed_shelf.specs.Kept.{Kept, absent, placed-contents}
use Rattle.packed_shelf.specs.Moved.{a_row}
use Rattle.packed_shelf.specs.Shelved.{emptied-long, lengthened_long}

pub kept : (s : PackedShelf) → Kept (vec_items s.rows) (vec_items s.bytes)
kept s = record { few = s.few; bounded = s.bounded; within = s.within; numbered = s.numbered; named = s.named; apart = s.apart }

-- a file with its row, in the words of the interface
pub placed-from : {t : Shelf} {rows : List Row} {k p : ℕ} → Found t rows k p → Placed rows k p
placed-from f = record { within = f.within; number = f.number }

pub found_from : (s : PackedShelf) (k : ℕ) (o : Option ℕ) → MatchOption o (bearing k (vec_items s.rows) ≡ 0) (λ p. Placed (vec_items s.rows) k p)
    → MatchOption o (present (meaning_of s) k ≡ false) (λ p. Found (meaning_of s) (vec_items s.rows) k p)
found_from s k None none = absent (vec_items s.rows) (vec_items s.bytes) (kept s) k none
found_from s k (Some p) placed =
    record { here = (placed-contents (vec_items s.rows) (vec_items s.bytes) (kept s) k p placed).0; within = placed.within; number = placed.number }

refilled_to : {X Z : Type 0} (v : Vec X Z) (ws us : List X) → ws ≡ us → length us ≡ length (vec_items v) → vec_items (with_items v ws) ≡ us
refilled_to v ws us e l =
    let n = v.ok.0 in
    let m = ap length e in
    with_items_is v ws (omega arith) ∙ e

-- what is kept and meant of two lists that are known
abbrev pub Left : Shelf → List Row → List ℕ → Type 0
Left t rows bytes = Kept rows bytes × (packed rows bytes ≡ t)

left_as : (t : Shelf) (rows us : List Row) (bytes vs : List ℕ) → rows ≡ us → bytes ≡ vs → Left t us vs → Left t rows bytes
left_as t rows us bytes vs e f h = subst (λ (rs : List Row). Left t rs bytes) (sym e) (subst (λ (bs : List ℕ). Left t us bs) (sym f) h)

-- the rows and bytes that were lent are xs and bs, and they came back as ys and cs
module _ (s : PackedShelf) (k p : ℕ) (placed : Placed (vec_items s.rows) k p)
    (xs ys : List Row) (bs cs : List ℕ) (lent_rows : xs ≡ vec_items s.rows) (lent_bytes : bs ≡ vec_items s.bytes) where
  pub emptied_left : ys ≡ rows_emptied xs p → cs ≡ bytes_emptied xs p bs
      → Left (with_files (packed (vec_items s.rows) (vec_items s.bytes)) (old_emptied (packed (vec_items s.rows) (vec_items s.bytes)) k))
      (vec_items (with_items s.rows ys)) (vec_items (with_items s.bytes cs))
  emptied_left e f =
      let rows = vec_items s.rows in
      let bytes = vec_items s.bytes in
      let a = a_row rows p placed.within in
      left_as _ _ (rows_emptied rows p) _ (bytes_emptied rows p bytes)
      (refilled_to s.rows ys (rows_emptied rows p) (e ∙ ap (λ (rs : List Row). rows_emptied rs p) lent_rows) (emptied-long rows s.numbered p a.0 placed.within a.1))
      (refilled_to s.bytes cs (bytes_emptied rows p bytes)
      (f ∙ (ap (λ (rs : List Row). bytes_emptied rs p bs) lent_rows ∙ ap (λ (vs : List ℕ). bytes_emptied rows p vs) lent_bytes))
      (old-long rows bytes (kept s) k p placed a.0 a.1))
      (old_kept rows bytes (kept s) k p placed a.0 a.1, old_after_lem rows bytes (kept s) k p placed a.0 a.1)

  pub longer_left : (more : List ℕ) → total (vec_items s.rows) + length more ≤ length (vec_items s.bytes)
      → ys ≡ rows_lengthened xs p (length more) → cs ≡ bytes_lengthened xs p bs more
      → Left (with_files (packed (vec_items s.rows) (vec_items s.bytes)) (added (files_of (vec_items s.rows) (vec_items s.bytes)) k more))
      (vec_items (with_items s.rows ys)) (vec_items (with_items s.bytes cs))
  longer_left more room e f =
      let rows = vec_items s.rows in
      let bytes = vec_items s.bytes in
      let n = length more in
      let a = a_row rows p placed.within in
      left_as _ _ (rows_lengthened rows p n) _ (bytes_lengthened rows p bytes more)
      (refilled_to s.rows ys (rows_lengthened rows p n) (e ∙ ap (λ (rs : List Row). rows_lengthened rs p n) lent_rows) (lengthened_long rows s.numbered p a.0 placed.within a.1 n))
      (refilled_to s.bytes cs (bytes_lengthened rows p bytes more)
      (f ∙ (ap (λ (rs : List Row). bytes_lengthened rs p bs more) lent_rows ∙ ap (λ (vs : List ℕ). bytes_lengthened rows p vs more) lent_bytes))
      (longer-long rows bytes (kept s) k p placed a.0 a.1 more room))
      (longer_kept rows bytes (kept s) k p placed a.0 a.1 more room, longer_after rows bytes (kept s) k p placed a.0 a.1 more room)
