-- The lines of bytes: the first, those behind it, and how many there are.
use Rattle.std.proofs.Common.{add-one, ◌≡◌, ℕ, zero, suc, ◌+◌, ◌<◌, ◌≤◌, Bool, true, false, cond, not, ◌&&◌, eqb, ltb, leb, List, [], ◌∷◌, ◌++◌, length, take, drop, sym, refl, ap, ◌∙◌, subst, ⊎_elim, arith}
use Rattle.std.proofs.lemmas.List.{append-nil, append_assoc, length_push, length-take-le}
use Rattle.std.proofs.lemmas.Bool.{ne_eqb, eq-eqb, cases_Bool, or_parts, or_from, and_parts, not-true, leb-true, lt-ltb}
use Rattle.lines.specs.Line.{holds_break, fitting, all_fit}
use Rattle.rules.specs.Doing.{short}
use Rattle.rules.specs.Files.{on_first, split}
use Rattle.filing.specs.declared.count.Count.{Count}
use Rattle.filing.specs.Counting.{byte_counted, counted, uncounted, lines_of, fits_of, line_length, first_line}

-- a byte that is a line break, and one that is not

split_break : (b : ℕ) (bs : List ℕ) → eqb b 10 ≡ true → split (b ∷ bs) ≡ [] ∷ split bs
split_break b bs e = ap (λ (c : Bool). elim c as (λ _. List (List ℕ)) [ true ↦ [] ∷ split bs | false ↦ on_first b (split bs) ]) e

split_other : (b : ℕ) (bs : List ℕ) → eqb b 10 ≡ false → split (b ∷ bs) ≡ on_first b (split bs)
split_other b bs e = ap (λ (c : Bool). elim c as (λ _. List (List ℕ)) [ true ↦ [] ∷ split bs | false ↦ on_first b (split bs) ]) e

length_break : (b : ℕ) (bs : List ℕ) → eqb b 10 ≡ true → line_length (b ∷ bs) ≡ 0
length_break b bs e = ap (λ (c : Bool). cond c 0 (suc (line_length bs))) e

length_other : (b : ℕ) (bs : List ℕ) → eqb b 10 ≡ false → line_length (b ∷ bs) ≡ suc (line_length bs)
length_other b bs e = ap (λ (c : Bool). cond c 0 (suc (line_length bs))) e

-- the first line, and those behind its break

-- the lines of bytes whose first line has n bytes
abbrev cut_at : ℕ → List ℕ → List (List ℕ)
cut_at n bs = take n bs ∷ split (drop (suc n) bs)

cut_behind : (b : ℕ) (bs : List ℕ) → (1 ≤ length bs → split bs ≡ cut_at (line_length bs) bs) → on_first b (split bs) ≡ cut_at (suc (line_length bs)) (b ∷ bs)
cut_behind b [] h = refl
cut_behind b (x ∷ bs) h = ap (on_first b) (h (omega arith))

pub split_first : (bs : List ℕ) → 1 ≤ length bs → split bs ≡ first_line bs ∷ split (drop (suc (line_length bs)) bs)
split_first [] h = absurd (omega arith)
split_first (b ∷ bs) h =
    ⊎_elim
    (λ (e : eqb b 10 ≡ true). split_break b bs e ∙ ap (λ n. cut_at n (b ∷ bs)) (sym (length_break b bs e)))
    (λ (e : eqb b 10 ≡ false). split_other b bs e ∙ (cut_behind b bs (split_first bs) ∙ ap (λ n. cut_at n (b ∷ bs)) (sym (length_other b bs e))))
    (cases_Bool (eqb b 10))

pub first-within : (bs : List ℕ) → line_length bs ≤ length bs
first-within [] = omega arith
first-within (b ∷ bs) =
    let h = first-within bs in
    ⊎_elim
    (λ (e : eqb b 10 ≡ true). omega (arith, length_break b bs e))
    (λ (e : eqb b 10 ≡ false). omega (arith, length_other b bs e))
    (cases_Bool (eqb b 10))

-- a front that holds the first line and more
pub first_in_front : (n : ℕ) (bs : List ℕ) → line_length bs < n → line_length (take n bs) ≡ line_length bs
first_in_front zero [] h = absurd (omega arith)
first_in_front (suc n) [] h = refl
first_in_front zero (b ∷ bs) h = absurd (omega arith)
first_in_front (suc n) (b ∷ bs) h =
    ⊎_elim
    (λ (e : eqb b 10 ≡ true). length_break b (take n bs) e ∙ sym (length_break b bs e))
    (λ (e : eqb b 10 ≡ false).
    let le : line_length bs < n = omega (arith, length_other b bs e) in
    length_other b (take n bs) e ∙ (ap suc (first_in_front n bs le) ∙ sym (length_other b bs e)))
    (cases_Bool (eqb b 10))

-- what is known of the first line where all lines fit
pub record FirstFits (bs : List ℕ) : Type 0 where
  pub short : line_length bs ≤ 255
  pub unbroken : holds_break (first_line bs) ≡ false
  pub rest : all_fit (split (drop (suc (line_length bs)) bs)) ≡ true

pub first_fits : (bs : List ℕ) → 1 ≤ length bs → all_fit (split bs) ≡ true → FirstFits bs
first_fits bs h fits =
    let all : (fitting (first_line bs) && all_fit (split (drop (suc (line_length bs)) bs))) ≡ true = sym (ap all_fit (split_first bs h)) ∙ fits in
    let both = and_parts (fitting (first_line bs)) (all_fit (split (drop (suc (line_length bs)) bs))) all in
    let one = and_parts (leb (length (first_line bs)) 255) (not (holds_break (first_line bs))) both.0 in
    let size = length-take-le (line_length bs) bs (first-within bs) in
    let short = leb-true (length (first_line bs)) 255 one.0 in
    record { short = omega arith; unbroken = not-true (holds_break (first_line bs)) one.1; rest = both.1 }

-- a line without a break in it, and what stands behind it

split-line : (t : List ℕ) (b : ℕ) (bs : List ℕ) → holds_break t ≡ false → eqb b 10 ≡ true → split (t ++ (b ∷ bs)) ≡ t ∷ split bs
split-line [] b bs h e = split_break b bs e
split-line (x ∷ t) b bs h e =
    let p = or_parts (eqb x 10) (holds_break t) h in
    split_other x (t ++ (b ∷ bs)) p.0 ∙ ap (on_first x) (split-line t b bs p.1 e)

split_last : (b : ℕ) (t : List ℕ) → holds_break (b ∷ t) ≡ false → split (b ∷ t) ≡ (b ∷ t) ∷ []
split_last b [] h = let p = or_parts (eqb b 10) false h in split_other b [] p.0
split_last b (x ∷ t) h =
    let p = or_parts (eqb b 10) (holds_break (x ∷ t)) h in
    split_other b (x ∷ t) p.0 ∙ ap (on_first b) (split_last x t p.1)

unbroken_push : (t : List ℕ) (b : ℕ) → holds_break t ≡ false → eqb b 10 ≡ false → holds_break (t ++ (b ∷ [])) ≡ false
unbroken_push [] b h e = or_from (eqb b 10) false e refl
unbroken_push (x ∷ t) b h e =
    let p = or_parts (eqb x 10) (holds_break t) h in
    or_from (eqb x 10) (holds_break (t ++ (b ∷ []))) p.0 (unbroken_push t b p.1 e)

-- counting

-- the count behind a break, and behind another byte
abbrev ended : Count → Count
ended c = record { ended = c.ended + 1; pending = 0; fits = c.fits && leb c.pending 255 }

abbrev other : Count → Count
other c = record { ended = c.ended; pending = c.pending + 1; fits = c.fits }

counted_break : (c : Count) (b : ℕ) (bs : List ℕ) → eqb b 10 ≡ true → counted c (b ∷ bs) ≡ counted (ended c) bs
counted_break c b bs e = ap (λ (x : Bool). counted (cond x (ended c) (other c)) bs) e

counted_other : (c : Count) (b : ℕ) (bs : List ℕ) → eqb b 10 ≡ false → counted c (b ∷ bs) ≡ counted (other c) bs
counted_other c b bs e = ap (λ (x : Bool). counted (cond x (ended c) (other c)) bs) e

pub counted_more : (c : Count) (xs bs : List ℕ) → counted c (xs ++ bs) ≡ counted (counted c xs) bs
counted_more c [] bs = refl
counted_more c (b ∷ xs) bs = counted_more (byte_counted c b) xs bs

-- a byte adds at most one line, and one byte to the line that is pending
pub byte_bounds : (c : Count) (b : ℕ) → ((byte_counted c b).ended ≤ c.ended + 1) × ((byte_counted c b).pending ≤ c.pending + 1)
byte_bounds c b = by_break (eqb b 10)
  where
    by_break : (x : Bool)
        → ((cond x (ended c) (other c)).ended ≤ c.ended + 1) × ((cond x (ended c) (other c)).pending ≤ c.pending + 1)
    by_break true = (omega arith, omega arith)
    by_break false = (omega arith, omega arith)

pub counted-bounds : (c : Count) (bs : List ℕ) → ((counted c bs).ended ≤ c.ended + length bs) × ((counted c bs).pending ≤ c.pending + length bs)
counted-bounds c [] = (omega arith, omega arith)
counted-bounds c (b ∷ bs) =
    let one = byte_bounds c b in
    let more = counted-bounds (byte_counted c b) bs in
    (omega (arith, one, more), omega (arith, one, more))

-- counted bytes are the lines of a split: t stands for what is pending

one_pending : (c : Count) → 1 ≤ c.pending → lines_of c ≡ c.ended + 1
one_pending c h = let e = lt-ltb 0 c.pending (omega arith) in ap (λ (b : Bool). c.ended + cond b 1 0) e

and_true : (b : Bool) → (b && true) ≡ b
and_true true = refl
and_true false = refl

and_assoc : (a b c : Bool) → ((a && b) && c) ≡ (a && (b && c))
and_assoc true b c = refl
and_assoc false b c = refl

fitting-unbroken : (t : List ℕ) → holds_break t ≡ false → fitting t ≡ leb (length t) 255
fitting-unbroken t h = ap (λ (b : Bool). leb (length t) 255 && not b) h ∙ and_true (leb (length t) 255)

-- the lines of bytes have no break in them, so they fit where none is too long

Whole : List (List ℕ) → Type 0
Whole [] = Unit {0}
Whole (t ∷ ts) = (holds_break t ≡ false) × Whole ts

whole_first : (b : ℕ) (ts : List (List ℕ)) → eqb b 10 ≡ false → Whole ts → Whole (on_first b ts)
unfolding Whole
whole_first b [] e w = (or_from (eqb b 10) false e refl, tt)
whole_first b (t ∷ ts) e w = (or_from (eqb b 10) (holds_break t) e w.0, w.1)

whole_split : (bs : List ℕ) → Whole (split bs)
unfolding Whole
whole_split [] = tt
whole_split (b ∷ bs) = whole_behind b bs (whole_split bs)
  where
    whole_behind : (b : ℕ) (bs : List ℕ) → Whole (split bs) → Whole (split (b ∷ bs))
    whole_behind b bs w = ⊎_elim
        (λ (e : eqb b 10 ≡ true). subst Whole (sym (split_break b bs e)) (refl, w))
        (λ (e : eqb b 10 ≡ false). subst Whole (sym (split_other b bs e)) (whole_first b (split bs) e w))
        (cases_Bool (eqb b 10))

short_whole : (ts : List (List ℕ)) → Whole ts → short ts ≡ all_fit ts
unfolding Whole
short_whole [] w = refl
short_whole (t ∷ ts) w =
    ap (λ (b : Bool). b && short ts) (sym (fitting-unbroken t w.0)) ∙ ap (λ (b : Bool). fitting t && b) (short_whole ts w.1)

pub short_split : (bs : List ℕ) → short (split bs) ≡ all_fit (split bs)
short_split bs = short_whole (split bs) (whole_split bs)

-- what is said of a count, where these are the lines
abbrev Tallies : Count → Count → List (List ℕ) → Type 0
Tallies whole c ls = (lines_of whole ≡ c.ended + length ls) × (fits_of whole ≡ (c.fits && all_fit ls))

last_counted : (c : Count) (t : List ℕ) → holds_break t ≡ false → c.pending ≡ length t → Tallies c c (split t)
last_counted c [] h p = (ap (λ n. c.ended + cond (ltb 0 n) 1 0) p, ap (λ n. c.fits && leb n 255) p)
last_counted c (b ∷ t) h p =
    let e = split_last b t h in
    let fit : leb c.pending 255 ≡ (fitting (b ∷ t) && true) = ap (λ n. leb n 255) p ∙ (sym (fitting-unbroken (b ∷ t) h) ∙ sym (and_true (fitting (b ∷ t)))) in (
      one_pending c (omega arith) ∙ ap (λ (ls : List (List ℕ)). c.ended + length ls) (sym e),
      ap (λ (x : Bool). c.fits && x) fit ∙ ap (λ (ls : List (List ℕ)). c.fits && all_fit ls) (sym e),
    )

break_counted : (c : Count) (t : List ℕ) (b : ℕ) (bs : List ℕ) → holds_break t ≡ false → c.pending ≡ length t → eqb b 10 ≡ true
    → Tallies (counted (ended c) bs) (ended c) (split bs) → Tallies (counted c (b ∷ bs)) c (split (t ++ (b ∷ bs)))
break_counted c t b bs h p e r =
    let cut = split-line t b bs h e in
    let fit : leb c.pending 255 ≡ fitting t = ap (λ n. leb n 255) p ∙ sym (fitting-unbroken t h) in
    let sum : c.ended + 1 + length (split bs) ≡ c.ended + length (t ∷ split bs) = omega arith in (
      ap lines_of (counted_break c b bs e) ∙ (r.0 ∙ (sum ∙ ap (λ (ls : List (List ℕ)). c.ended + length ls) (sym cut))),
      ap fits_of (counted_break c b bs e)
          ∙ (r.1
          ∙ (and_assoc c.fits (leb c.pending 255) (all_fit (split bs))
          ∙ (ap (λ (x : Bool). c.fits && (x && all_fit (split bs))) fit ∙ ap (λ (ls : List (List ℕ)). c.fits && all_fit ls) (sym cut)))),
    )

other_counted : (c : Count) (t : List ℕ) (b : ℕ) (bs : List ℕ) → eqb b 10 ≡ false
    → Tallies (counted (other c) bs) (other c) (split ((t ++ (b ∷ [])) ++ bs)) → Tallies (counted c (b ∷ bs)) c (split (t ++ (b ∷ bs)))
other_counted c t b bs e r =
    let same = ap split (append_assoc t (b ∷ []) bs) in (
      ap lines_of (counted_other c b bs e) ∙ (r.0 ∙ ap (λ (ls : List (List ℕ)). c.ended + length ls) same),
      ap fits_of (counted_other c b bs e) ∙ (r.1 ∙ ap (λ (ls : List (List ℕ)). c.fits && all_fit ls) same),
    )

counted-split : (c : Count) (t bs : List ℕ) → holds_break t ≡ false → c.pending ≡ length t → Tallies (counted c bs) c (split (t ++ bs))
counted-split c t [] h p = rw (append-nil t) (last_counted c t h p)
counted-split c t (b ∷ bs) h p =
    ⊎_elim
    (λ (e : eqb b 10 ≡ true). break_counted c t b bs h p e (counted-split (ended c) [] bs refl refl))
    (λ (e : eqb b 10 ≡ false).
    let size : c.pending + 1 ≡ length (t ++ (b ∷ [])) = omega (arith, length_push t b) in
    other_counted c t b bs e (counted-split (other c) (t ++ (b ∷ [])) bs (unbroken_push t b h e) size))
    (cases_Bool (eqb b 10))

-- all bytes counted
pub counted-lines : (bs : List ℕ) → lines_of (counted uncounted bs) ≡ length (split bs)
counted-lines bs = (counted-split uncounted [] bs refl refl).0 ∙ (let e : 0 + length (split bs) ≡ length (split bs) = omega arith in e)

pub counted_fits : (bs : List ℕ) → fits_of (counted uncounted bs) ≡ all_fit (split bs)
counted_fits bs = (counted-split uncounted [] bs refl refl).1

-- a break ends the first line, and any other byte makes it longer
pub length_hit : (b : ℕ) (bs : List ℕ) → b ≡ 10 → line_length (b ∷ bs) ≡ 0
length_hit b bs e = ap (λ (t : Bool). cond t 0 (suc (line_length bs))) (eq-eqb b 10 e)

pub length_miss : (b : ℕ) (bs : List ℕ) → (b ≡ 10 → ⊥) → line_length (b ∷ bs) ≡ line_length bs + 1
length_miss b bs e = ap (λ (t : Bool). cond t 0 (suc (line_length bs))) (ne_eqb b 10 e) ∙ sym (add-one (line_length bs))
