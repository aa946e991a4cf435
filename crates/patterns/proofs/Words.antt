-- Words of bits: what `|` with one bit and `!` do to the set that four of them hold.
use Rattle.std.proofs.Common.{◌≡◌, ℕ, ◌-◌, ◌*◌, ◌/◌, ◌%◌, ◌^◌, ◌<◌, true, false, not, ◌&&◌, ◌||◌, eqb, leb, List, length, get_or, set, sym, ap, ◌∙◌, ⊎_elim, arith, w64}
use Rattle.std.specs.Int.{bit_at, bit_not}
use Rattle.std.specs.Int.Bits.{bit_and, bit_or}
use Rattle.std.proofs.Math.Bool.{or-false}
use Rattle.std.proofs.lemmas.Nat.Bits.{shr_and_one, bit_at_not, bit_at_set_same, bit_at_set_other, bit_at-lt}
use Rattle.std.proofs.lemmas.List.{get_or-set_same, get_or-set_other}
use Rattle.std.proofs.lemmas.Bool.{cases_eq, or_right}
use Rattle.std.proofs.lemmas.Bool.Decides.{nat_tests}
use Rattle.patterns.specs.Sets.{has, with_span, others}
use Rattle.patterns.specs.Bits.{bit_of, table_of}
use Rattle.patterns.proofs.Tables.{has_those, same_tables}

-- a byte of a set, by its bit
has_word : (words : List ℕ) (b : ℕ) → b < 256 → has (table_of words) b ≡ bit_of (get_or words (b / 64) 0) (b % 64)
has_word words b h = has_those (λ x. bit_of (get_or words (x / 64) 0) (x % 64)) b h

-- and as the code reads it
pub has_bit : (words : List ℕ) (b : ℕ) → b < 256 → has (table_of words) b ≡ eqb (bit_and (get_or words (b / 64) 0 / 2 ^ (b % 64)) 1) 1
has_bit words b h = has_word words b h ∙ sym (ap (λ n. eqb n 1) (shr_and_one (get_or words (b / 64) 0) (b % 64)))

-- one byte more
pub insert_table : (words : List ℕ) (b : ℕ) → length words ≡ 4 → b < 256
    → table_of (set words (b / 64) (bit_or (get_or words (b / 64) 0) (1 * 2 ^ (b % 64) % 2 ^ 64))) ≡ with_span b b (table_of words)
insert_table words b long h = same_tables _ _ at
  where
    at : (c : ℕ) → c < 256
        → bit_of (get_or (set words (b / 64) (bit_or (get_or words (b / 64) 0) (1 * 2 ^ (b % 64) % 2 ^ 64))) (c / 64) 0) (c % 64)
        ≡ (has (table_of words) c || (leb b c && leb c b))
    at c l =
        let word = get_or words (b / 64) 0 in
        let new = bit_or word (1 * 2 ^ (b % 64) % 2 ^ 64) in
        let within : b % 64 < 64 = omega arith in
        let t = has_word words c l in
        let s = get_or-set_same words (b / 64) new 0 (omega arith) in
        ⊎_elim
        (λ (e : c ≡ b).
        let here : (leb b c && leb c b) ≡ true = grind (arith, nat_tests) in
        let q : c / 64 ≡ b / 64 = ap (λ n. n / 64) e in
        let r : c % 64 ≡ b % 64 = ap (λ n. n % 64) e in
        let one = bit_at_set_same w64 word (b % 64) within in
        let whole = or_right (has (table_of words) c) (leb b c && leb c b) here in
        cc)
        (λ (n : c ≡ b → ⊥).
        let apart : (leb b c && leb c b) ≡ false = grind (arith, nat_tests) in
        let z = or-false (has (table_of words) c) in
        ⊎_elim
        (λ (e : c / 64 ≡ b / 64).
        let other = bit_at_set_other w64 word (b % 64) within (c % 64) (omega arith) in
        cc)
        (λ (n : c / 64 ≡ b / 64 → ⊥).
        let other = get_or-set_other words (b / 64) (c / 64) new 0 n in
        cc)
        (cases_eq (c / 64) (b / 64)))
        (cases_eq c b)

opposite : (x : ℕ) → x < 2 → eqb (1 - x) 1 ≡ not (eqb x 1)
opposite x h = grind (arith, nat_tests)

-- the words of the complement
pub others_table : (words flipped : List ℕ) → length words ≡ 4 → ((k : ℕ) → k < 4 → get_or words k 0 < 2 ^ 64)
    → ((k : ℕ) → k < 4 → get_or flipped k 0 ≡ bit_not w64 (get_or words k 0))
    → table_of flipped ≡ others (table_of words)
others_table words flipped long fit each = same_tables _ _ λ c h.
    let q : c / 64 < 4 = omega arith in
    let word = get_or words (c / 64) 0 in
    ap (λ w. bit_of w (c % 64)) (each (c / 64) q)
    ∙ ap (λ n. eqb n 1) (bit_at_not w64 word (c % 64) (fit (c / 64) q) (omega arith))
    ∙ opposite (bit_at word (c % 64)) (bit_at-lt word (c % 64))
    ∙ sym (ap not (has_word words c h))
