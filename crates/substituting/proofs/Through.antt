-- Each step through the lines that a text becomes takes the first token off what is left.
use Rattle.std.proofs.Common.{◌≡◌, ℕ, zero, suc, ◌+◌, ◌-◌, ◌≤◌, Bool, true, false, cond, eqb, List, [], ◌∷◌, ◌++◌, length, take, drop, Some, None, Option, IfSome, sym, refl, ap, ◌∙◌, subst, inl, inr, add-one, arith, Bor}
use Rattle.std.proofs.lemmas.List.{append_assoc}
use Rattle.std.proofs.lemmas.Bool.{cases_Bool, eqb-true}
use Rattle.std.proofs.lemmas.Bool.Decides.{nat_tests}
use Rattle.matching.specs.declared.answer.Match.{Match}
use Rattle.command.specs.declared.replacement.Bit.{Bit as BitCode}
use Rattle.command.specs.declared.replacement.Bit.TheVariants.{TheMatch, TheByte, TheBreak}
use Rattle.command.specs.Replacements.{Bit, bits_of}
use Rattle.command.specs.Said.{Sought, Substitution}
use Rattle.command.specs.View.{bit_view}
use Rattle.rules.specs.Patterns.{found, empty_again, matches_from, all_matches, in_front, filled, replaced, substituted}
use Rattle.substituting.specs.declared.cursor.Cursor.{Cursor}
use Rattle.substituting.specs.declared.cursor.Token.TheVariants.{Run}
use Rattle.substituting.specs.Places.{Placed}
use Rattle.substituting.specs.Readings.{searches_of}
use Rattle.substituting.specs.Spelling.{part, lines_from, ahead, steps_of, weight_from, token_of, empty_after, passing, Found, Behind, Stepped}

-- the matches from a place on

matches_none : (n : ℕ) (s : Sought) (t : List ℕ) (from : ℕ) (last : Option ℕ) → found s t from ≡ None → matches_from n s t from last ≡ []
matches_none zero s t from last e = refl
matches_none (suc n) s t from last e = rw (e, matches_from)

module _ (s : Sought) (t : List ℕ) (from : ℕ) (m : Match) where
  again : (last : Option ℕ) → eqb m.start m.end ≡ true → empty_after last m ≡ empty_again last m.start
  again None h = refl
  again (Some e) h = rw h

  empty_now : (last : Option ℕ) → empty_after last m ≡ true → eqb m.start m.end ≡ true
  empty_now None h = grind (arith, nat_tests)
  empty_now (Some e) h = grind (arith, nat_tests)

  matches_more : (n : ℕ) (last : Option ℕ) → found s t from ≡ Some m → empty_after last m ≡ false
      → matches_from (suc n) s t from last ≡ m ∷ matches_from n s t (cond (eqb m.start m.end) (m.start + 1) m.end) (Some m.end)
  matches_more n last e k = elim (cases_Bool (eqb m.start m.end)) [
    | inl h ↦
        let a : empty_again last m.start ≡ false = sym (again last h) ∙ k in
        let same : m.start ≡ m.end = eqb-true m.start m.end h in
        let one : m.start + 1 ≡ suc m.start = add-one m.start in
        cc
    | inr h ↦ cc
  ]

  matches-past : (n : ℕ) (last : Option ℕ) → found s t from ≡ Some m → empty_after last m ≡ true
      → matches_from (suc n) s t from last ≡ matches_from n s t (m.start + 1) (Some m.start)
  matches-past n last e k =
      let h : eqb m.start m.end ≡ true = empty_now last k in
      let a : empty_again last m.start ≡ true = sym (again last h) ∙ k in
      let one : m.start + 1 ≡ suc m.start = add-one m.start in
      cc

-- lines with something in front

pub front_front : (a b : List ℕ) (ls : List (List ℕ)) → in_front a (in_front b ls) ≡ in_front (a ++ b) ls
front_front a b [] = refl
front_front a b (l ∷ ls) = ap (λ x. x ∷ ls) (sym (append_assoc a b l))

pub front-replaced : (r : List Bit) (t : List ℕ) (at : ℕ) (ms : List Match) → in_front [] (replaced r t at ms) ≡ replaced r t at ms
front-replaced r t at [] = refl
front-replaced r t at (m ∷ ms) = front_front [] _ _

-- what is left behind a place, by the bits and the matches that are left
abbrev pub left_behind : Substitution → List ℕ → Cursor → List Bit → List Match → List (List ℕ)
left_behind s t c bits ms = filled bits c.run.now (replaced (bits_of s.replacement) t c.at ms)

module _ (s : Substitution) (t : List ℕ) (c : Cursor) where
  pub left_is : lines_from s t c ≡ left_behind s t c (bits_of c.bits.now) (matches_from c.searches s.sought t c.from c.last)
  unfolding lines_from
  left_is = refl

  left_seeking : bits_of c.bits.now ≡ []
      → lines_from s t c ≡ replaced (bits_of s.replacement) t c.at (matches_from c.searches s.sought t c.from c.last)
  left_seeking e = left_is ∙ ap (λ bits. left_behind s t c bits (matches_from c.searches s.sought t c.from c.last)) e

  weight_is : weight_from s c ≡ length (bits_of c.bits.now) + steps_of (length (bits_of s.replacement)) c.searches + 1
  unfolding weight_from
  weight_is = refl

-- no match follows
pub finished : (s : Substitution) (t : List ℕ) (c : Cursor) (a : Bor (List ℕ)) → bits_of c.bits.now ≡ []
    → matches_from c.searches s.sought t c.from c.last ≡ [] → a.now ≡ drop c.at t
    → Stepped s t c (record { token = Run a; next = None })
finished s t c a none e same = record {
  lines = left_seeking s t c none
      ∙ ap (λ ms. replaced (bits_of s.replacement) t c.at ms) e
      ∙ ap (λ x. x ∷ []) (sym same);
  placed = tt;
  falls = omega (arith, weight_is s t c);
}

-- what a search gives
pub found_next : (c : Cursor) (s : Sought) (t : List ℕ) (r : Option Match) → 1 ≤ c.searches → r ≡ found s t c.from
    → IfSome r (λ m. (c.from ≤ m.start) × (m.start ≤ m.end) × (m.end ≤ length t)) → Found s t c r
found_next c s t None some e w = matches_none c.searches s t c.from c.last (sym e)
found_next c s t (Some m) some e w = (some, sym e, w.0, w.1, w.2)

-- a search is used up
module _ (c : Cursor) (s : Sought) (t : List ℕ) (m : Match) (some : 1 ≤ c.searches) (e : found s t c.from ≡ Some m) where
  fewer : c.searches ≡ suc (c.searches - 1)
  fewer = omega arith

  steps_fewer : (k : ℕ) → steps_of k c.searches ≡ suc (k + steps_of k (c.searches - 1))
  steps_fewer k = ap (λ n. steps_of k n) fewer

  counts : empty_after c.last m ≡ false
      → matches_from c.searches s t c.from c.last
      ≡ m ∷ matches_from (c.searches - 1) s t (cond (eqb m.start m.end) (m.start + 1) m.end) (Some m.end)
  counts k = ap (λ n. matches_from n s t c.from c.last) fewer ∙ matches_more s t c.from m (c.searches - 1) c.last e k

  is_passed : empty_after c.last m ≡ true
      → matches_from c.searches s t c.from c.last ≡ matches_from (c.searches - 1) s t (m.start + 1) (Some m.start)
  is_passed k = ap (λ n. matches_from n s t c.from c.last) fewer ∙ matches-past s t c.from m (c.searches - 1) c.last e k

-- an empty match that does not count
pub passed : (s : Substitution) (t : List ℕ) (c n : Cursor) (m : Match) (a : Bor (List ℕ)) → bits_of c.bits.now ≡ [] → Placed (length t) c
    → 1 ≤ c.searches → found s.sought t c.from ≡ Some m → empty_after c.last m ≡ true → c.from ≤ m.start → a.now ≡ [] → n ≡ passing c m
    → Stepped s t c (record { token = Run a; next = Some n })
passed s t c n m a none p some e k behind nothing is =
    subst (λ (x : Cursor). Stepped s t c (record { token = Run a; next = Some x })) (sym is) by_passing
  where
    next : Cursor
    next = passing c m

    by_passing : Stepped s t c (record { token = Run a; next = Some (passing c m) })
    by_passing = record {
      lines = left_seeking s t c none
          ∙ ap (λ ms. replaced (bits_of s.replacement) t c.at ms) (is_passed c s.sought t m some e k)
          ∙ sym (front-replaced (bits_of s.replacement) t c.at (matches_from (c.searches - 1) s.sought t (m.start + 1) (Some m.start)))
          ∙ ap (λ ls. in_front [] ls) (sym (left_seeking s t (passing c m) none))
          ∙ ap (λ x. in_front x (lines_from s t (passing c m))) (sym nothing);
      placed = (p.0, omega (arith, p.1));
      falls = omega (arith, weight_is s t c, weight_is s t (passing c m), steps_fewer c s.sought t m some e (length (bits_of s.replacement)));
    }

-- a match that counts
pub replaces : (s : Substitution) (t : List ℕ) (c n : Cursor) (m : Match) (a : Bor (List ℕ)) → bits_of c.bits.now ≡ []
    → 1 ≤ c.searches → found s.sought t c.from ≡ Some m → empty_after c.last m ≡ false → m.end ≤ length t
    → a.now ≡ part t c.at m.start → Behind s t c m n
    → Stepped s t c (record { token = Run a; next = Some n })
replaces s t c n m a none some e k inside same is =
    let ms : List Match = matches_from (c.searches - 1) s.sought t (cond (eqb m.start m.end) (m.start + 1) m.end) (Some m.end) in
    let bits : bits_of n.bits.now ≡ bits_of s.replacement = ap bits_of is.bits in
    let from = is.from in
    let last = is.last in
    let searches = is.searches in
    let left : matches_from n.searches s.sought t n.from n.last ≡ ms = cc in
    let behind : lines_from s t n ≡ filled (bits_of s.replacement) (part t m.start m.end) (replaced (bits_of s.replacement) t m.end ms) =
    left_is s t n
    ∙ ap (λ bs. left_behind s t n bs (matches_from n.searches s.sought t n.from n.last)) bits
    ∙ ap (λ xs. left_behind s t n (bits_of s.replacement) xs) left
    ∙ ap (λ x. filled (bits_of s.replacement) x (replaced (bits_of s.replacement) t n.at ms)) is.run
    ∙ ap (λ i. filled (bits_of s.replacement) (part t m.start m.end) (replaced (bits_of s.replacement) t i ms)) is.at in
    record {
      lines = left_seeking s t c none
          ∙ ap (λ xs. replaced (bits_of s.replacement) t c.at xs) (counts c s.sought t m some e k)
          ∙ ap (λ ls. in_front (part t c.at m.start) ls) (sym behind)
          ∙ ap (λ x. in_front x (lines_from s t n)) (sym same);
      placed = (omega (arith, is.at), omega (arith, is.at, is.from, from_end m));
      falls = omega (
        arith,
        weight_is s t c,
        weight_is s t n,
        ap (λ (xs : List Bit). length xs) bits,
        ap (λ i. steps_of (length (bits_of s.replacement)) i) is.searches,
        steps_fewer c s.sought t m some e (length (bits_of s.replacement)),
      );
    }
  where
    from_end : (m : Match) → m.end ≤ cond (eqb m.start m.end) (m.start + 1) m.end
    from_end m = grind (arith, nat_tests)

-- a bit of a replacement
bit-ahead : (run : Bor (List ℕ)) (b : BitCode) (bits : List Bit) (rest : List (List ℕ))
    → filled (bit_view b ∷ bits) run.now rest ≡ ahead (token_of b run) (filled bits run.now rest)
bit-ahead run TheMatch bits rest = refl
bit-ahead run (TheByte b) bits rest = refl
bit-ahead run TheBreak bits rest = refl

abbrev pub with_bits : Cursor → Bor (List ℕ) → Cursor
with_bits c bits = record { bits = bits; run = c.run; at = c.at; from = c.from; last = c.last; searches = c.searches }

pub bit-done : (s : Substitution) (t : List ℕ) (c : Cursor) (b : BitCode) (bits : Bor (List ℕ)) → Placed (length t) c
    → bit_view b ∷ bits_of bits.now ≡ bits_of c.bits.now
    → Stepped s t c (record { token = token_of b c.run; next = Some (with_bits c bits) })
bit-done s t c b bits p e =
    let next : Cursor = with_bits c bits in
    let ms : List Match = matches_from c.searches s.sought t c.from c.last in
    record {
      lines = left_is s t c
          ∙ ap (λ xs. left_behind s t c xs ms) (sym e)
          ∙ bit-ahead c.run b (bits_of bits.now) (replaced (bits_of s.replacement) t c.at ms)
          ∙ ap (λ ls. ahead (token_of b c.run) ls) (sym (left_is s t next));
      placed = p;
      falls = omega (arith, weight_is s t c, weight_is s t next, ap (λ (xs : List Bit). length xs) e);
    }

-- the place in front of all lines

first-only : (s : Sought) (t : List ℕ) (n : ℕ) → matches_from 1 s t 0 None ≡ take 1 (matches_from (suc n) s t 0 None)
first-only s t n = by (found s t 0) refl
  where
    by : (o : Option Match) → found s t 0 ≡ o → matches_from 1 s t 0 None ≡ take 1 (matches_from (suc n) s t 0 None)
    by None e = matches_none 1 s t 0 None e ∙ sym (ap (λ ms. take 1 ms) (matches_none (suc n) s t 0 None e))
    by (Some m) e = matches_more s t 0 m 0 None e refl ∙ sym (ap (λ ms. take 1 ms) (matches_more s t 0 m n None e refl))

matches-sought : (s : Sought) (t : List ℕ) (all : Bool)
    → matches_from (searches_of all (length t)) s t 0 None ≡ cond all (all_matches s t) (take 1 (all_matches s t))
matches-sought s t true = refl
matches-sought s t false =
    let e : suc (suc (length t)) ≡ 2 + length t = omega arith in
    first-only s t (suc (length t)) ∙ ap (λ n. take 1 (matches_from n s t 0 None)) e

pub started : (s : Substitution) (t : List ℕ) (c : Cursor) → bits_of c.bits.now ≡ [] → c.at ≡ 0 → c.from ≡ 0 → c.last ≡ None
    → c.searches ≡ searches_of s.all (length t) → lines_from s t c ≡ substituted s t
unfolding substituted
started s t c none at from last n =
    let e = matches-sought s.sought t s.all in
    left_seeking s t c none ∙ cc

pub no_bits : bits_of [] ≡ []
unfolding bits_of
no_bits = refl
