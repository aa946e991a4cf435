-- Tables of bytes: what stands in `those test`, and when two are equal.
use Rattle.std.proofs.Common.{◌≡◌, ℕ, ◌+◌, ◌<◌, ◌≤◌, Bool, false, ◌&&◌, ◌||◌, eqb, ltb, leb, sym, ap, ◌∙◌, arith}
use Rattle.std.proofs.Math.Bool.{or-false, or_assoc}
use Rattle.std.proofs.lemmas.List.FromFn.{get_or-map-range_with_len, length-map-range_with_len, fill_by_all}
use Rattle.std.proofs.lemmas.Bool.Decides.{nat_tests}
use Rattle.patterns.specs.Sets.{Set, has, those, no_bytes, just, with_span}

pub has_those : (test : ℕ → Bool) (b : ℕ) → b < 256 → has (those test) b ≡ test b
unfolding those
has_those test b h = get_or-map-range_with_len test 0 256 b b false h (omega arith)

pub same_tables : (f g : ℕ → Bool) → ((b : ℕ) → b < 256 → f b ≡ g b) → those f ≡ those g
unfolding those
same_tables f g same =
    fill_by_all g (those f) 256 false (length-map-range_with_len f 0 256) (λ b h. has_those f b h ∙ same b h)

-- a set, and the bytes from `low` up to one below `i`
abbrev pub spanned : ℕ → ℕ → Set → Set
spanned low i s = those (λ b. has s b || (leb low b && ltb b i))

nothing_between : (low b : ℕ) → (leb low b && ltb b low) ≡ false
nothing_between low b = grind (arith, nat_tests)

pub span_none : (test : ℕ → Bool) (low : ℕ) → those test ≡ spanned low low (those test)
span_none test low = same_tables _ _ λ b h.
    sym (or-false (test b)) ∙ ap (λ t. test b || t) (sym (nothing_between low b)) ∙ ap (λ t. t || (leb low b && ltb b low)) (sym (has_those test b h))

one_more : (low i b : ℕ) → low ≤ i → ((leb low b && ltb b i) || (leb i b && leb b i)) ≡ (leb low b && ltb b (i + 1))
one_more low i b h = grind (arith, nat_tests)

pub span_more : (low i : ℕ) (s : Set) → low ≤ i → with_span i i (spanned low i s) ≡ spanned low (i + 1) s
span_more low i s h = same_tables _ _ λ b l.
    ap (λ t. t || (leb i b && leb b i)) (has_those (λ x. has s x || (leb low x && ltb x i)) b l)
    ∙ or_assoc (has s b) (leb low b && ltb b i) (leb i b && leb b i)
    ∙ ap (λ t. has s b || t) (one_more low i b h)

up_to : (low high b : ℕ) → (leb low b && ltb b (high + 1)) ≡ (leb low b && leb b high)
up_to low high b = grind (arith, nat_tests)

pub span_all : (low high : ℕ) (s : Set) → spanned low (high + 1) s ≡ with_span low high s
span_all low high s = same_tables _ _ λ b l. ap (λ t. has s b || t) (up_to low high b)

same_byte : (b c : ℕ) → (leb c b && leb b c) ≡ eqb b c
same_byte b c = grind (arith, nat_tests)

pub span_just : (c : ℕ) → with_span c c no_bytes ≡ just c
span_just c = same_tables _ _ λ b l. ap (λ t. t || (leb c b && leb b c)) (has_those (λ x. false) b l) ∙ same_byte b c
