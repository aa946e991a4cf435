-- The lemmas on rows and bytes, at a gap store: its count, its room, and the line whose row was found.
use Rattle.std.specs.Prelude.{◌≡◌, ℕ, ◌+◌, ◌-◌, ◌*◌, ◌^◌, ◌<◌, ◌≤◌, true, List, [], ◌∷◌, ◌++◌, length, get_or, take, drop, vec_items, slice_index_or, slice_set}
use Rattle.std.proofs.Common.{refl, sym, ◌∙◌, arith}
use Rattle.std.proofs.Math.Path.{ap, subst}
use Rattle.std.proofs.lemmas.List.{get_or_read, length-take-le, length-drop}
use Rattle.std.proofs.lemmas.Bool.Decides.{nat_tests}
use Rattle.lines.specs.Line.{Line, LineFits}
use Rattle.lines.specs.Store.{Store, line_at, inserted}
use Rattle.lines.proofs.Fitting.{Each, each_same, each-inserted, each_removed, each_set}
use Rattle.gap_store.specs.declared.gapped.Gapped.{Gapped}
use Rattle.gap_store.specs.declared.row.Row.{Row}
use Rattle.gap_store.specs.declared.store.GapStore.{GapStore}
use Rattle.gap_store.specs.Meaning.{meaning_of, Located}
use Rattle.gap_store.specs.Gaps.{held, overwritten, place}
use Rattle.gap_store.specs.Rows.{no_row, total, cut, laid, gap_meaning}
use Rattle.gap_store.specs.Moves.{overwritten_one}
use Rattle.gap_store.specs.BackToBack.{total-append, total-within, laid-total}
use Rattle.gap_store.specs.Edits.{put-length, put_front, put_behind, put-lines, lower, remove_front, remove-lines, set_front, set_behind, set_lines}
use Rattle.gap_store.specs.Sides.{room, front-total, count, lies, line_here}

-- the meaning of a store, open to these proofs
abbrev pub raw : GapStore → Store
raw s = gap_meaning (vec_items s.rows.all) s.rows.start s.rows.end (vec_items s.bytes.all) s.bytes.start s.bytes.end

-- rows and bytes with their gaps, by what each part of them is
pub record Are (rs : Gapped Row) (bs : Gapped ℕ) (rows : List Row) (f b : ℕ) (bytes : List ℕ) (p q : ℕ) : Type 0 where
  pub rows_all : vec_items rs.all ≡ rows
  pub rows_start : rs.start ≡ f
  pub rows_end : rs.end ≡ b
  pub bytes_all : vec_items bs.all ≡ bytes
  pub bytes_start : bs.start ≡ p
  pub bytes_end : bs.end ≡ q

module _ {rs : Gapped Row} {bs : Gapped ℕ} {rows : List Row} {f b : ℕ} {bytes : List ℕ} {p q : ℕ} (are : Are rs bs rows f b bytes p q) where
  pub meaning_as : gap_meaning (vec_items rs.all) rs.start rs.end (vec_items bs.all) bs.start bs.end ≡ gap_meaning rows f b bytes p q
  meaning_as = rw (are.rows_all, are.rows_start, are.rows_end, are.bytes_all, are.bytes_start, are.bytes_end) refl

  pub front_as : laid 0 (take f rows) p ≡ true → laid 0 (take rs.start (vec_items rs.all)) bs.start ≡ true
  front_as h = rw (are.rows_all, are.rows_start, are.bytes_start) h

  pub behind_as : laid q (drop b rows) (length bytes) ≡ true → laid bs.end (drop rs.end (vec_items rs.all)) (length (vec_items bs.all)) ≡ true
  behind_as h = rw (are.rows_all, are.rows_end, are.bytes_all, are.bytes_end) h

  pub each_as : Each (gap_meaning rows f b bytes p q).lines → Each (gap_meaning (vec_items rs.all) rs.start rs.end (vec_items bs.all) bs.start bs.end).lines
  each_as h = each_same _ _ (ap (λ (m : Store). m.lines) meaning_as) h

module _ (s : GapStore) where
  abbrev rows : List Row
  rows = vec_items s.rows.all

  abbrev bytes : List ℕ
  bytes = vec_items s.bytes.all

  abbrev f : ℕ
  f = s.rows.start

  abbrev b : ℕ
  b = s.rows.end

  abbrev p : ℕ
  p = s.bytes.start

  abbrev q : ℕ
  q = s.bytes.end

  -- what rows and bytes are once a line was put in or taken out at the gap, or a row was written
  module _ (rs : Gapped Row) (bs : Gapped ℕ) where
    pub put_in : (row : Row) (n : ℕ) → f < b → vec_items rs.all ≡ overwritten rows f (row ∷ []) → rs.start ≡ f + 1 → rs.end ≡ b → bs.start ≡ p + n → bs.end ≡ q
        → Are rs bs (slice_set rows f row) (f + 1) b (vec_items bs.all) (p + n) q
    put_in row n free all start end bstart bend =
        let last = s.rows.last in
        record { rows_all = all ∙ overwritten_one rows f row (omega arith); rows_start = start; rows_end = end; bytes_all = refl; bytes_start = bstart; bytes_end = bend }

    pub taken_out : (at : ℕ) → rs.all ≡ s.rows.all → rs.start ≡ f - 1 → rs.end ≡ b → bs.all ≡ s.bytes.all → bs.start ≡ at → bs.end ≡ q
        → Are rs bs rows (f - 1) b bytes at q
    taken_out at all start end ball bstart bend =
        record { rows_all = ap vec_items all; rows_start = start; rows_end = end; bytes_all = ap vec_items ball; bytes_start = bstart; bytes_end = bend }

  pub written : (rs : Gapped Row) (i : ℕ) (row : Row) → vec_items rs.all ≡ slice_set rows i row → rs.start ≡ f → rs.end ≡ b
      → Are rs s.bytes (slice_set rows i row) f b bytes p q
  written rs i row all start end = record { rows_all = all; rows_start = start; rows_end = end; bytes_all = refl; bytes_start = refl; bytes_end = refl }

  pub count_of : length (raw s).lines ≡ f + (length rows - b)
  count_of = count rows f b bytes p q s.rows.order s.rows.last s.roomy s.front s.behind

  pub room_of : p + 255 * (b - f) ≤ q
  room_of = room rows f b bytes p q s.rows.order s.rows.last s.roomy s.front s.behind

  -- what the first lines take up lies within what is held
  pub offset_within : (at : ℕ) → total (take at (held rows f b)) ≤ p + (length bytes - q)
  offset_within at =
      let whole = total-append (take f rows) (drop b rows) in
      let first = front-total rows f b bytes p q s.rows.order s.rows.last s.roomy s.front s.behind in
      let rest = laid-total q (drop b rows) (length bytes) s.behind in
      let part = total-within 0 (held rows f b) at in
      omega arith

  -- the lines, once both gaps have moved
  pub moved_lines : (new-rows : List Row) (new-bytes : List ℕ) (at m offset o : ℕ)
      → ((bs : List ℕ) → cut bs (held new-rows at m) ≡ cut bs (held rows f b)) → held new-bytes offset o ≡ held bytes p q
      → (gap_meaning new-rows at m new-bytes offset o).lines ≡ (raw s).lines
  moved_lines new-rows new-bytes at m offset o same e = same (held new-bytes offset o) ∙ ap (λ (bs : List ℕ). cut bs (held rows f b)) e

  -- line n has its row, r, at i
  module _ (n i : ℕ) (one : 1 ≤ n) (within : n ≤ f + (length rows - b)) (here : i ≡ place f b n) (inside : i < length rows) (r : Row) (e : r ≡ slice_index_or rows i r) where
    is_row : r ≡ slice_index_or rows (place f b n) no_row
    is_row = get_or_read rows i r inside e no_row ∙ ap (λ (k : ℕ). get_or rows k no_row) here

    line : line_at (raw s) n ≡ record { text = take r.len (drop r.start bytes); tag = r.tag }
    line =
        line_here rows f b bytes p q s.rows.order s.rows.last s.roomy s.front s.behind n one within
        ∙ ap (λ (x : Row). record { text = take x.len (drop x.start bytes); tag = x.tag }) (sym is_row)

    pub located : Located s n r
    unfolding meaning_of
    located =
        let l = lies rows f b bytes p q s.rows.order s.rows.last s.roomy s.front s.behind n one within in
        let c = count_of in
        let fits : r.start + r.len ≤ length bytes = subst (λ (x : Row). x.start + x.len ≤ length bytes) (sym is_row) l.fits in
        let long : length (take r.len (drop r.start bytes)) ≡ r.len = length-take-le r.len (drop r.start bytes) (let d = length-drop r.start bytes in omega arith) in
        record {
          here = grind (arith, nat_tests);
          within = fits;
          text = ap (λ (x : Line). x.text) line;
          long = ap (λ (x : Line). length x.text) line ∙ long;
          tag = ap (λ (x : Line). x.tag) line;
        }

    -- the row with another tag in its place
    module _ (g : ℕ) where
      abbrev retagged : Row
      retagged = record { start = r.start; len = r.len; tag = g }

      same_start : r.start ≡ (get_or rows (place f b n) no_row).start
      same_start = ap (λ (x : Row). x.start) is_row

      same_len : r.len ≡ (get_or rows (place f b n) no_row).len
      same_len = ap (λ (x : Row). x.len) is_row

      pub retag_front : laid 0 (take f (slice_set rows i retagged)) p ≡ true
      retag_front =
          subst (λ (k : ℕ). laid 0 (take f (slice_set rows k retagged)) p ≡ true) (sym here)
          (set_front rows f b bytes p q s.rows.order s.rows.last s.front s.behind n one within retagged same_start same_len)

      pub retag_behind : laid q (drop b (slice_set rows i retagged)) (length bytes) ≡ true
      retag_behind =
          subst (λ (k : ℕ). laid q (drop b (slice_set rows k retagged)) (length bytes) ≡ true) (sym here)
          (set_behind rows f b bytes p q s.rows.order s.rows.last s.front s.behind n one within retagged same_start same_len)

      pub retag-lines : (gap_meaning (slice_set rows i retagged) f b bytes p q).lines ≡ slice_set (raw s).lines (n - 1) (record { text = (line_at (raw s) n).text; tag = g })
      retag-lines =
          ap (λ (k : ℕ). (gap_meaning (slice_set rows k retagged) f b bytes p q).lines) here
          ∙ set_lines rows f b bytes p q s.rows.order s.rows.last s.front s.behind n one within retagged same_start same_len

      pub retag_each : g < 2 ^ 27 → Each (gap_meaning (slice_set rows i retagged) f b bytes p q).lines
      retag_each lt =
          let c = count_of in
          let fits = s.each n in
          each_same _ _ retag-lines (each_set (raw s).lines (n - 1) (record { text = (line_at (raw s) n).text; tag = g }) (omega arith) (fits.0, fits.1, lt) s.each)

-- a line put in at the gap, which stands behind line n
module _ (s : GapStore) (n : ℕ) (e : s.rows.start ≡ n) (free : n < s.rows.end) (text : List ℕ) (tag : ℕ)
    (fits : LineFits (record { text = text; tag = tag })) (bytes' : List ℕ) (w : bytes' ≡ overwritten (bytes s) (p s) text) where
  abbrev row : Row
  row = record { start = p s; len = length text; tag = tag }

  free' : f s < b s
  free' = omega arith

  pub put-room : p s + length text ≤ q s
  put-room = let room = room_of s in omega (arith, free', fits.0)

  pub put-long : length bytes' ≡ length (bytes s)
  put-long = ap length w ∙ put-length (rows s) (f s) (b s) (bytes s) (p s) (q s) s.rows.order s.rows.last s.roomy s.front s.behind text tag free' fits.0

  pub put-laid : laid 0 (take (n + 1) (slice_set (rows s) n row)) (p s + length text) ≡ true
  put-laid =
      subst (λ (k : ℕ). laid 0 (take (k + 1) (slice_set (rows s) k row)) (p s + length text) ≡ true) e
      (put_front (rows s) (f s) (b s) (bytes s) (p s) (q s) s.rows.order s.rows.last s.roomy s.front s.behind text tag free' fits.0)

  pub put_rest : laid (q s) (drop (b s) (slice_set (rows s) n row)) (length bytes') ≡ true
  put_rest =
      subst (λ (bs : List ℕ). laid (q s) (drop (b s) (slice_set (rows s) n row)) (length bs) ≡ true) (sym w)
      (subst (λ (k : ℕ). laid (q s) (drop (b s) (slice_set (rows s) k row)) (length (overwritten (bytes s) (p s) text)) ≡ true) e
      (put_behind (rows s) (f s) (b s) (bytes s) (p s) (q s) s.rows.order s.rows.last s.roomy s.front s.behind text tag free' fits.0))

  pub put_makes : (gap_meaning (slice_set (rows s) n row) (n + 1) (b s) bytes' (p s + length text) (q s)).lines ≡ inserted (raw s).lines n (record { text = text; tag = tag })
  put_makes =
      ap (λ (bs : List ℕ). (gap_meaning (slice_set (rows s) n row) (n + 1) (b s) bs (p s + length text) (q s)).lines) w
      ∙ subst (λ (k : ℕ). (gap_meaning (slice_set (rows s) k row) (k + 1) (b s) (overwritten (bytes s) (p s) text) (p s + length text) (q s)).lines ≡ inserted (raw s).lines k (record { text = text; tag = tag })) e
      (put-lines (rows s) (f s) (b s) (bytes s) (p s) (q s) s.rows.order s.rows.last s.roomy s.front s.behind text tag free' fits.0)

  pub put_each : Each (gap_meaning (slice_set (rows s) n row) (n + 1) (b s) bytes' (p s + length text) (q s)).lines
  put_each = let c = count_of s in each_same _ _ put_makes (each-inserted (raw s).lines n (record { text = text; tag = tag }) (omega arith) fits s.each)

-- the line in front of the gap, line n, removed
module _ (s : GapStore) (n : ℕ) (e : s.rows.start ≡ n) (one : 1 ≤ n) (r : Row) (at : r ≡ slice_index_or (rows s) (n - 1) r) where
  gone : r ≡ slice_index_or (rows s) (f s - 1) no_row
  gone = let order = s.rows.order in let last = s.rows.last in get_or_read (rows s) (n - 1) r (omega arith) at no_row ∙ ap (λ (k : ℕ). get_or (rows s) (k - 1) no_row) (sym e)

  one' : 1 ≤ f s
  one' = omega arith

  -- its bytes start in front of the gap
  pub remove_lower : r.start ≤ p s
  remove_lower = subst (λ (x : Row). x.start ≤ p s) (sym gone) (lower (rows s) (f s) (b s) (bytes s) (p s) (q s) s.rows.order s.rows.last s.roomy s.front s.behind one')

  pub remove-laid : laid 0 (take (n - 1) (rows s)) r.start ≡ true
  remove-laid =
      subst (λ (x : Row). laid 0 (take (n - 1) (rows s)) x.start ≡ true) (sym gone)
      (subst (λ (k : ℕ). laid 0 (take (k - 1) (rows s)) (get_or (rows s) (f s - 1) no_row).start ≡ true) e
      (remove_front (rows s) (f s) (b s) (bytes s) (p s) (q s) s.rows.order s.rows.last s.roomy s.front s.behind one'))

  pub remove_makes : (gap_meaning (rows s) (n - 1) (b s) (bytes s) r.start (q s)).lines ≡ take (n - 1) (raw s).lines ++ drop n (raw s).lines
  remove_makes =
      ap (λ (x : Row). (gap_meaning (rows s) (n - 1) (b s) (bytes s) x.start (q s)).lines) gone
      ∙ subst (λ (k : ℕ). (gap_meaning (rows s) (k - 1) (b s) (bytes s) (get_or (rows s) (f s - 1) no_row).start (q s)).lines ≡ take (k - 1) (raw s).lines ++ drop k (raw s).lines) e
      (remove-lines (rows s) (f s) (b s) (bytes s) (p s) (q s) s.rows.order s.rows.last s.roomy s.front s.behind one')

  pub remove_each : Each (gap_meaning (rows s) (n - 1) (b s) (bytes s) r.start (q s)).lines
  remove_each = let c = count_of s in each_same _ _ remove_makes (each_removed (raw s).lines n one (omega arith) s.each)
