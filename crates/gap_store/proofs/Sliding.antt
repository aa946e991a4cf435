-- Moving the gap in the rows keeps the lines, and keeps the rows back to back on either side.
use Rattle.std.proofs.Common.{◌≡◌, ℕ, ◌+◌, ◌-◌, ◌<◌, ◌≤◌, true, cond, ltb, List, ◌++◌, length, get_or, take, drop, sym, ap, ◌∙◌, subst, arith}
use borrow.Rule.Slice.PartMut.{put_mid}
use Rattle.std.proofs.lemmas.List.{append_assoc, take_at, drop_at, take-take, take-append-le, take-append-drop, take_all, length-take-le, length-drop, length-append, get_or-take, get_or-drop, get_or_read}
use Rattle.std.proofs.lemmas.Bool.{ltb-true, ltb-false, cond_both}
use Rattle.std.proofs.lemmas.Slice.{between_is, take-put_mid, take-put_mid_below, drop-put_mid}
use Rattle.gap_store.specs.declared.row.Row.{Row}
use Rattle.gap_store.specs.Gaps.{held}
use Rattle.gap_store.specs.Rows.{no_row, total, cut, laid, relaid}
use Rattle.gap_store.specs.Sliding.{Slid}
use Rattle.gap_store.specs.BackToBack.{total-append, laid-total, laid_join, laid_front, laid_back, laid_at, laid-relaid, cut-relaid, length-relaid}

-- where a row that was read starts
pub row_start : (was : List Row) (at : ℕ) (r : Row) → at < length was → r ≡ get_or was at r → r.start ≡ (get_or was at no_row).start
row_start was at r lt is = ap (λ (x : Row). x.start) (get_or_read was at r lt is no_row)

-- the two sides of a gap, from what is held
module _ {X : Type 0} (zs xs ys : List X) (at m : ℕ) (e : held zs at m ≡ xs ++ ys) (n : length xs ≡ at) (le : at ≤ length zs) where
  front_is : take at zs ≡ xs
  front_is = sym (take_at (take at zs) (drop m zs) at (length-take-le at zs le)) ∙ ap (take at) e ∙ take_at xs ys at n

  behind_is : drop m zs ≡ ys
  behind_is = sym (drop_at (take at zs) (drop m zs) at (length-take-le at zs le)) ∙ ap (drop at) e ∙ drop_at xs ys at n

-- what is held once the gap has moved, from its two sides
sides : {X : Type 0} (zs xs ys : List X) (at m : ℕ) → take at zs ≡ xs → drop m zs ≡ ys → held zs at m ≡ xs ++ ys
sides zs xs ys at m e d = ap (λ (us : _). us ++ drop m zs) e ∙ ap (λ (us : _). xs ++ us) d

-- the gap moves down: the rows ys, between `at` and the gap, go to its other side
module _ (was : List Row) (f b p q at : ℕ) (le : f ≤ b) (last : b ≤ length was) (room : p ≤ q) (lt : at < f) (h : laid 0 (take f was) p ≡ true) where
  abbrev xs : List Row
  xs = take at (take f was)

  abbrev ys : List Row
  ys = drop at (take f was)

  abbrev offset : ℕ
  offset = (get_or was at no_row).start

  abbrev m : ℕ
  m = at + (b - f)

  long : length (take f was) ≡ f
  long = length-take-le f was (omega arith)

  joined : xs ++ ys ≡ take f was
  joined = take-append-drop at (take f was)

  pub down_offset : offset ≡ total xs
  down_offset =
      let w = laid_at 0 (take f was) p at no_row h (omega (arith, long)) in
      ap (λ (r : Row). r.start) (sym (get_or-take f was at no_row lt)) ∙ omega (arith, w.0)

  pub down_total : offset + total ys ≡ p
  down_total =
      let t = sym (total-append xs ys) ∙ ap total joined in
      let u = laid-total 0 (take f was) p h in
      omega (arith, down_offset)

  module _ (rows : List Row) (n : length rows ≡ length was) (e : held rows at m ≡ held was f b) where
    long_xs : length xs ≡ at
    long_xs = length-take-le at (take f was) (omega (arith, long))

    long_ys : length ys ≡ b - m
    long_ys = length-drop at (take f was) ∙ omega (arith, long)

    parted : held rows at m ≡ xs ++ (ys ++ drop b was)
    parted = e ∙ ap (λ (z : List Row). z ++ drop b was) (sym joined) ∙ append_assoc xs ys (drop b was)

    front : take at rows ≡ xs
    front = front_is rows xs (ys ++ drop b was) at m parted long_xs (omega arith)

    behind : drop m rows ≡ ys ++ drop b was
    behind = behind_is rows xs (ys ++ drop b was) at m parted long_xs (omega arith)

    pub down_moved : take (b - m) (drop m rows) ≡ ys
    down_moved = ap (take (b - m)) behind ∙ take_at ys (drop b was) (b - m) long_ys

    module _ (new : List Row) (l : new ≡ relaid (offset + (q - p)) (take (b - m) (drop m rows))) where
      abbrev made : List Row
      made = put_mid m (b - m) rows new

      new_is : new ≡ relaid (offset + (q - p)) ys
      new_is = l ∙ ap (relaid (offset + (q - p))) down_moved

      made_front : take at made ≡ xs
      made_front = take-put_mid_below m (b - m) rows new at (omega arith) (omega arith) ∙ front

      made_behind : drop m made ≡ relaid (offset + (q - p)) ys ++ drop b was
      made_behind =
          drop_at (take m rows) (new ++ drop (b - m) (drop m rows)) m (length-take-le m rows (omega arith))
          ∙ ap (λ (z : List Row). z ++ drop (b - m) (drop m rows)) new_is
          ∙ ap (λ (z : List Row). relaid (offset + (q - p)) ys ++ z) (ap (drop (b - m)) behind ∙ drop_at ys (drop b was) (b - m) long_ys)

      pub slid_down : (end : ℕ) → laid q (drop b was) end ≡ true → Slid was f b p q end at made offset
      slid_down end g = record {
        here = down_offset ∙ ap total (sym (take-append-le at (take f was) (drop b was) (omega (arith, long))));
        same = λ bytes.
            ap (cut bytes) (sides made xs _ at m made_front made_behind)
            ∙ cut-relaid bytes (offset + (q - p)) xs ys (drop b was)
            ∙ ap (cut bytes) (sym parted ∙ e);
        front = subst (λ (z : List Row). laid 0 z offset ≡ true) (sym made_front)
            (subst (λ (k : ℕ). laid 0 xs k ≡ true) (omega (arith, down_offset))
            (laid_front 0 xs ys p (subst (λ (z : List Row). laid 0 z p ≡ true) (sym joined) h)));
        behind = subst (λ (z : List Row). laid (offset + (q - p)) z end ≡ true) (sym made_behind)
            (laid_join (offset + (q - p)) (relaid (offset + (q - p)) ys) (drop b was) (offset + (q - p) + total ys) end
            (laid-relaid (0 + total xs) ys p (offset + (q - p)) (laid_back 0 xs ys p (subst (λ (z : List Row). laid 0 z p ≡ true) (sym joined) h)))
            (subst (λ (k : ℕ). laid k (drop b was) end ≡ true) (omega (arith, down_total)) g));
      }

    -- the same, where the offset was read and the rows were written back
    pub down_written : (off : ℕ) → off ≡ offset → (new : List Row) → new ≡ relaid (off + (q - p)) (take (b - m) (drop m rows))
        → (end : ℕ) → laid q (drop b was) end ≡ true → (written : List Row) → written ≡ put_mid m (b - m) rows new → Slid was f b p q end at written off
    down_written off o new l end g written w =
        subst (λ (k : ℕ). Slid was f b p q end at written k) (sym o)
        (subst (λ (rs : List Row). Slid was f b p q end at rs offset) (sym w)
        (slid_down new (l ∙ ap (λ (k : ℕ). relaid (k + (q - p)) (take (b - m) (drop m rows))) o) end g))

-- the gap moves up: the rows xs, between the gap and `at`, go to its other side
module _ (was : List Row) (f b p q end at : ℕ) (le : f ≤ b) (last : b ≤ length was) (room : p ≤ q) (lt : f ≤ at) (top : at ≤ f + (length was - b))
    (h : laid 0 (take f was) p ≡ true) (g : laid q (drop b was) end ≡ true) where
  abbrev up_xs : List Row
  up_xs = take (at - f) (drop b was)

  abbrev up_ys : List Row
  up_ys = drop (at - f) (drop b was)

  abbrev up_m : ℕ
  up_m = at + (b - f)

  up_joined : up_xs ++ up_ys ≡ drop b was
  up_joined = take-append-drop (at - f) (drop b was)

  up_laid : laid q (up_xs ++ up_ys) end ≡ true
  up_laid = subst (λ (z : List Row). laid q z end ≡ true) (sym up_joined) g

  -- where the bytes of the moved rows stop
  pub up_stop : cond (ltb (b + (at - f)) (length was)) (get_or was (b + (at - f)) no_row).start end ≡ q + total up_xs
  up_stop =
      cond_both (ltb (b + (at - f)) (length was)) (get_or was (b + (at - f)) no_row).start end (λ (k : ℕ). k ≡ q + total up_xs)
      (λ e.
      let k = ltb-true _ _ e in
      let n = length-drop b was in
      let w = laid_at q (drop b was) end (at - f) no_row g (omega arith) in
      ap (λ (r : Row). r.start) (sym (get_or-drop b was (at - f) no_row)) ∙ w.0)
      (λ e.
      let k = ltb-false _ _ e in
      let n = length-drop b was in
      let all : up_xs ≡ drop b was = take_all (at - f) (drop b was) (omega arith) in
      laid-total q (drop b was) end g ∙ ap (λ (z : List Row). q + total z) (sym all))

  -- the same, as it was read from rows and bytes that were lent
  pub up_read : (us : List Row) → us ≡ was → (final : ℕ) → final ≡ end → (stop : ℕ)
      → stop ≡ cond (ltb (b + (at - f)) (length us)) (get_or us (b + (at - f)) no_row).start final → stop ≡ q + total up_xs
  up_read us u final z stop is =
      is
      ∙ ap (λ (rs : List Row). cond (ltb (b + (at - f)) (length rs)) (get_or rs (b + (at - f)) no_row).start final) u
      ∙ ap (λ (k : ℕ). cond (ltb (b + (at - f)) (length was)) (get_or was (b + (at - f)) no_row).start k) z
      ∙ up_stop

  module _ (rows : List Row) (n : length rows ≡ length was) (e : held rows at up_m ≡ held was f b) where
    long_front : length (take f was) ≡ f
    long_front = length-take-le f was (omega arith)

    long_up_xs : length up_xs ≡ at - f
    long_up_xs = let k = length-drop b was in length-take-le (at - f) (drop b was) (omega arith)

    up_parted : held rows at up_m ≡ (take f was ++ up_xs) ++ up_ys
    up_parted = e ∙ ap (λ (z : List Row). take f was ++ z) (sym up_joined) ∙ sym (append_assoc (take f was) up_xs up_ys)

    long-both : length (take f was ++ up_xs) ≡ at
    long-both = length-append (take f was) up_xs ∙ omega (arith, long_front, long_up_xs)

    up_front : take at rows ≡ take f was ++ up_xs
    up_front = front_is rows (take f was ++ up_xs) up_ys at up_m up_parted long-both (omega arith)

    up_behind : drop up_m rows ≡ up_ys
    up_behind = behind_is rows (take f was ++ up_xs) up_ys at up_m up_parted long-both (omega arith)

    pub up_moved : take (at - f) (drop f rows) ≡ up_xs
    up_moved = between_is rows f at ∙ ap (drop f) up_front ∙ drop_at (take f was) up_xs f long_front

    module _ (new : List Row) (l : new ≡ relaid p (take (at - f) (drop f rows))) where
      abbrev up_made : List Row
      up_made = put_mid f (at - f) rows new

      up_new : new ≡ relaid p up_xs
      up_new = l ∙ ap (relaid p) up_moved

      long_new : length new ≡ at - f
      long_new = ap length up_new ∙ length-relaid p up_xs ∙ long_up_xs

      up_first : take f rows ≡ take f was
      up_first = sym (take-take f at rows lt) ∙ ap (take f) up_front ∙ take_at (take f was) up_xs f long_front

      up_made_front : take at up_made ≡ take f was ++ relaid p up_xs
      up_made_front =
          take-put_mid f (at - f) rows new at (omega (arith, long_new)) (omega arith)
          ∙ ap (λ (z : List Row). z ++ new) up_first
          ∙ ap (λ (z : List Row). take f was ++ z) up_new

      up_made_behind : drop up_m up_made ≡ up_ys
      up_made_behind = drop-put_mid f (at - f) rows new up_m (omega arith) (omega arith) long_new ∙ up_behind

      pub slid_up : (offset : ℕ) → offset ≡ p + total up_xs → Slid was f b p q end at up_made offset
      slid_up offset o = record {
        here =
            let t = laid-total 0 (take f was) p h in
            let w : total (take at (held was f b)) ≡ total (take f was) + total up_xs =
            ap (λ (z : List Row). total (take at z)) (sym e ∙ up_parted) ∙ ap total (take_at (take f was ++ up_xs) up_ys at long-both) ∙ total-append (take f was) up_xs in
            omega arith;
        same = λ bytes.
            ap (cut bytes) (sides up_made _ up_ys at up_m up_made_front up_made_behind ∙ append_assoc (take f was) (relaid p up_xs) up_ys)
            ∙ cut-relaid bytes p (take f was) up_xs up_ys
            ∙ ap (cut bytes) (sym (append_assoc (take f was) up_xs up_ys) ∙ sym up_parted ∙ e);
        front = subst (λ (z : List Row). laid 0 z offset ≡ true) (sym up_made_front)
            (laid_join 0 (take f was) (relaid p up_xs) p offset h
            (subst (λ (k : ℕ). laid p (relaid p up_xs) k ≡ true) (sym o) (laid-relaid q up_xs (q + total up_xs) p (laid_front q up_xs up_ys end up_laid))));
        behind = subst (λ (z : List Row). laid (offset + (q - p)) z end ≡ true) (sym up_made_behind)
            (subst (λ (k : ℕ). laid k up_ys end ≡ true) (omega arith) (laid_back q up_xs up_ys end up_laid));
      }

    pub up_written : (new : List Row) → new ≡ relaid p (take (at - f) (drop f rows))
        → (offset : ℕ) → offset ≡ p + total up_xs → (written : List Row) → written ≡ put_mid f (at - f) rows new → Slid was f b p q end at written offset
    up_written new l offset o written w = subst (λ (rs : List Row). Slid was f b p q end at rs offset) (sym w) (slid_up new l offset o)
