-- What a tag with one bit changed means for the line that bears it.
use Rattle.std.proofs.Common.{◌≡◌, ℕ, ◌+◌, ◌-◌, ◌/◌, ◌%◌, ◌^◌, ◌<◌, ◌≤◌, Bool, true, false, eqb, leb, ◌⊎◌, List, set, sym, ap, ◌∙◌, inl, inr, arith}
use native.Mathlib.Nat.{mod-add-div'}
use Rattle.std.proofs.lemmas.List.{set-get_or, set-set}
use Rattle.std.proofs.lemmas.Bool.{le-leb, lt-leb, ne_eqb, eqb-true, eqb-false, cases_lt}
use Rattle.rules.specs.Lines.{Line, bits, seen, has_mark, with_mark, choosing}
use Rattle.tags.proofs.Numerals.{bits_above, bit_at, bits-set, set_below, bit_under}

abbrev line : List ℕ → List Bool → Bool → Line
line t ms c = record { text = t; marks = ms; chosen = c }

-- the n lowest bits do not see what stands above them
bits_below : (n g : ℕ) → bits n (g % 2 ^ n) ≡ bits n g
bits_below n g = sym (ap (bits n) (sym (mod-add-div' g (2 ^ n))) ∙ bits_above n (g % 2 ^ n) (g / 2 ^ n))

pub unchosen-tag : (t : List ℕ) (g : ℕ) → seen (record { text = t; tag = g % 2 ^ 26 }) ≡ choosing false (seen (record { text = t; tag = g }))
unchosen-tag t g =
    ap (λ ms. line t ms (leb (2 ^ 26) (g % 2 ^ 26))) (bits_below 26 g)
    ∙ ap (line t (bits 26 g)) (lt-leb (2 ^ 26) (g % 2 ^ 26) (omega arith))

pub chosen-tag : (t : List ℕ) (g : ℕ) → seen (record { text = t; tag = 2 ^ 26 + g % 2 ^ 26 }) ≡ choosing true (seen (record { text = t; tag = g }))
chosen-tag t g =
    let other_way : 2 ^ 26 + g % 2 ^ 26 ≡ g % 2 ^ 26 + 2 ^ 26 = omega arith in
    let marks : bits 26 (2 ^ 26 + g % 2 ^ 26) ≡ bits 26 g = ap (bits 26) other_way ∙ bits_above 26 (g % 2 ^ 26) 1 ∙ bits_below 26 g in
    ap (λ ms. line t ms (leb (2 ^ 26) (2 ^ 26 + g % 2 ^ 26))) marks
    ∙ ap (line t (bits 26 g)) (le-leb (2 ^ 26) (2 ^ 26 + g % 2 ^ 26) (omega arith))

module _ (t : List ℕ) (g k : ℕ) (h : k < 26) where
  abbrev bearer : ℕ → Line
  bearer r = seen (record { text = t; tag = r })

  -- bit k of the tag is mark k
  pub mark_bit : has_mark k (bearer g) ≡ eqb (g / 2 ^ k % 2) 1
  mark_bit = bit_at 26 g k h

  pub same_mark : (b : Bool) → has_mark k (bearer g) ≡ b → bearer g ≡ with_mark k b (bearer g)
  same_mark b e = ap (λ ms. line t ms (leb (2 ^ 26) g)) (sym (ap (set (bits 26 g) k) (sym e) ∙ set-get_or (bits 26 g) k false))

  no-bit : has_mark k (bearer g) ≡ false → g / 2 ^ k % 2 ≡ 0
  no-bit e = let off : g / 2 ^ k % 2 ≡ 1 → ⊥ = eqb-false (g / 2 ^ k % 2) 1 (sym mark_bit ∙ e) in omega arith

  pub more-below : (n : ℕ) → 26 ≤ n → has_mark k (bearer g) ≡ false → g < 2 ^ n → g + 2 ^ k < 2 ^ n
  more-below n le e l = set_below n g k (omega arith) (no-bit e) l

  pub more_mark : has_mark k (bearer g) ≡ false → bearer (g + 2 ^ k) ≡ with_mark k true (bearer g)
  more_mark e =
      ap (λ ms. line t ms (leb (2 ^ 26) (g + 2 ^ k))) (bits-set 26 g k h (no-bit e))
      ∙ ap (line t (set (bits 26 g) k true)) (same_side (cases_lt g (2 ^ 26)))
    where
      same_side : (g < 2 ^ 26) ⊎ (2 ^ 26 ≤ g) → leb (2 ^ 26) (g + 2 ^ k) ≡ leb (2 ^ 26) g
      same_side (inl l) = lt-leb (2 ^ 26) (g + 2 ^ k) (set_below 26 g k h (no-bit e) l) ∙ sym (lt-leb (2 ^ 26) g l)
      same_side (inr l) = le-leb (2 ^ 26) (g + 2 ^ k) (omega arith) ∙ sym (le-leb (2 ^ 26) g l)

-- a mark's bit taken away
module _ (t : List ℕ) (g k : ℕ) (h : k < 26) (e : has_mark k (seen (record { text = t; tag = g })) ≡ true) where
  bit_there : g / 2 ^ k % 2 ≡ 1
  bit_there = eqb-true (g / 2 ^ k % 2) 1 (sym (mark_bit t g k h) ∙ e)

  pub bit-within : 2 ^ k ≤ g
  bit-within = (bit_under g k bit_there).0

  gone : has_mark k (seen (record { text = t; tag = g - 2 ^ k })) ≡ false
  gone = mark_bit t (g - 2 ^ k) k h ∙ ne_eqb ((g - 2 ^ k) / 2 ^ k % 2) 1 (λ one. let z = (bit_under g k bit_there).1 in omega arith)

  pub less_mark : seen (record { text = t; tag = g - 2 ^ k }) ≡ with_mark k false (seen (record { text = t; tag = g }))
  less_mark =
      let le = bit-within in
      let back : g - 2 ^ k + 2 ^ k ≡ g = omega arith in
      let with_it = ap (λ r. seen (record { text = t; tag = r })) (sym back) ∙ more_mark t (g - 2 ^ k) k h gone in
      same_mark t (g - 2 ^ k) k h false gone
      ∙ ap (λ ms. line t ms (leb (2 ^ 26) (g - 2 ^ k))) (sym (set-set (bits 26 (g - 2 ^ k)) k true false))
      ∙ ap (with_mark k false) (sym with_it)
