-- The match from a place: what `match_from` computes is the first longest match, and the only right answer.
use Rattle.std.proofs.Common.{◌≡◌, ℕ, zero, suc, ◌+◌, ◌-◌, ◌<◌, ◌≤◌, Bool, true, false, cond, ◌&&◌, ltb, [], ◌∷◌, length, get_or, take, drop, IfSome, Some, None, Option, sym, refl, ap, ◌∙◌, subst, ⊎_elim, add-one, arith}
use Rattle.std.proofs.lemmas.List.{drop_more, drop_all, length-drop}
use Rattle.std.proofs.lemmas.Bool.{both_ways, lt-ltb, le-ltb, cases_lt, cases_eq, or_left, or_right, or_from, and_from, and_left, and_right}
use Rattle.matching.specs.declared.answer.Match.{Match}
use Rattle.patterns.specs.Items.{Bytes, Pattern}
use Rattle.matching.specs.Fitting.{Fits, FitsAt}
use Rattle.matching.specs.Matching.{IsMatch, longest_run, found_at, first_from, no_start, match_from, MatchingRight, MatchingOne}
use Rattle.matching.proofs.Fitted.{IsBest, Head, longest_right}

-- the last start that counts
abbrev pub last_start : Bool → Bytes → ℕ
last_start front line = cond front 0 (length line)

-- the match at a start, or else a later one
abbrev pub or_later : ℕ → Option ℕ → Option Match → Option Match
or_later s size later = elim size [ Some k ↦ Some (found_at s k) | None ↦ later ]

module _ (p : Pattern) (line : Bytes) where
  by_test : (from : ℕ) (t : Bool) → no_start p line from ≡ t
      → match_from p line from ≡ elim t as (λ _. Option Match) [ true ↦ None | false ↦ first_from p from (drop from line) ]
  unfolding match_from
  by_test from t e = ap (λ x. elim x as (λ _. Option Match) [ true ↦ None | false ↦ first_from p from (drop from line) ]) e

  past_last : (s : ℕ) (b : Bool) → p.front ≡ b → last_start b line < s → no_start p line s ≡ true
  past_last s false e h = or_left (ltb (length line) s) (p.front && ltb 0 s) (lt-ltb (length line) s h)
  past_last s true e h =
      or_right (ltb (length line) s) (p.front && ltb 0 s) (and_from p.front (ltb 0 s) e (lt-ltb 0 s h))

  up_to_last : (s : ℕ) (b : Bool) → p.front ≡ b → s ≤ last_start b line → no_start p line s ≡ false
  up_to_last s false e h =
      or_from (ltb (length line) s) (p.front && ltb 0 s) (le-ltb (length line) s h) (and_left p.front (ltb 0 s) e)
  up_to_last s true e h =
      or_from (ltb (length line) s) (p.front && ltb 0 s) (le-ltb (length line) s (omega arith)) (and_right p.front (ltb 0 s) (le-ltb 0 s h))

  pub match_past : (s : ℕ) (b : Bool) → p.front ≡ b → last_start b line < s → match_from p line s ≡ None
  match_past s b e h = by_test s true (past_last s b e h)

  match_at : (s : ℕ) (b : Bool) → p.front ≡ b → s ≤ last_start b line → match_from p line s ≡ first_from p s (drop s line)
  match_at s b e h = by_test s false (up_to_last s b e h)

  -- what is left to the starts behind s
  abbrev later : ℕ → Bool → Option Match
  later s b = elim b [ true ↦ None | false ↦ first_from p (suc s) (drop (s + 1) line) ]

  later_is : (s : ℕ) (b : Bool) → p.front ≡ b → s < length line → later s b ≡ match_from p line (s + 1)
  later_is s true e l = sym (match_past (s + 1) true e (omega arith))
  later_is s false e l =
      ap (λ n. first_from p n (drop (s + 1) line)) (sym (add-one s)) ∙ sym (match_at (s + 1) false e (omega arith))

  behind_end : (s : ℕ) (b : Bool) → length line ≤ s → last_start b line < s + 1
  behind_end s false l = omega arith
  behind_end s true l = omega arith

  pub match_step : (s : ℕ) (b : Bool) → p.front ≡ b → s ≤ last_start b line
      → match_from p line s ≡ or_later s (longest_run p.items p.back (drop s line)) (match_from p line (s + 1))
  match_step s b e h =
      ⊎_elim
      (λ (l : s < length line).
      match_at s b e h
      ∙ ap (first_from p s) (drop_more line s 0 l)
      ∙ ap (λ t. or_later s (longest_run p.items p.back (get_or line s 0 ∷ drop (s + 1) line)) (later s t)) e
      ∙ ap (or_later s (longest_run p.items p.back (get_or line s 0 ∷ drop (s + 1) line))) (later_is s b e l)
      ∙ ap (λ bs. or_later s (longest_run p.items p.back bs) (match_from p line (s + 1))) (sym (drop_more line s 0 l)))
      (λ (l : length line ≤ s).
      match_at s b e h
      ∙ ap (first_from p s) (drop_all s line l)
      ∙ ap (or_later s (longest_run p.items p.back [])) (sym (match_past (s + 1) b e (behind_end s b l)))
      ∙ ap (λ bs. or_later s (longest_run p.items p.back bs) (match_from p line (s + 1))) (sym (drop_all s line l)))
      (cases_lt s (length line))

  -- a run at a start, by its length
  to_head : (s e : ℕ) → FitsAt p line s e → Head p.items p.back (drop s line) (e - s)
  to_head s e f =
      let a = f.forward in let b = f.inside in
      (simp length-drop (omega arith), (λ t. simp length-drop (let q = f.back t in omega arith)), f.fits)

  of_head : (s k : ℕ) → s ≤ length line → (p.front ≡ true → s ≡ 0) → Head p.items p.back (drop s line) k → FitsAt p line s (s + k)
  of_head s k l front h =
      let a : k ≤ length line - s = simp length-drop at h.0 in
      let size : s + k - s ≡ k = omega arith in
      record {
        forward = omega arith;
        inside = omega arith;
        front = front;
        back = λ t. (let b : k ≡ length line - s = simp length-drop at (h.1 t) in omega arith);
        fits = subst (λ n. Fits p.items (take n (drop s line))) (sym size) h.2;
      }

  -- no start behind the last
  start-within : (s e : ℕ) (b : Bool) → p.front ≡ b → FitsAt p line s e → s ≤ last_start b line
  start-within s e false q f = let a = f.forward in let b = f.inside in omega arith
  start-within s e true q f = let z = f.front q in omega arith

  front-zero : (s : ℕ) (b : Bool) → p.front ≡ b → s ≤ last_start b line → p.front ≡ true → s ≡ 0
  front-zero s false q h t = absurd (both_ways p.front q t)
  front-zero s true q h t = omega arith

  inside-line : (s : ℕ) (b : Bool) → s ≤ last_start b line → s ≤ length line
  inside-line s false h = h
  inside-line s true h = omega arith

  -- the right answer at a start from the longest run there and the right answer behind it
  here : (s : ℕ) → s ≤ length line → (p.front ≡ true → s ≡ 0) → (x : Option ℕ) (later : Option Match)
      → IsBest (Head p.items p.back (drop s line)) x → IsMatch p line (s + 1) later → IsMatch p line s (or_later s x later)
  here s l front (Some k) later h g = record {
    behind = omega arith;
    fits = of_head s k l front h.0;
    first = λ t e a f. a;
    longest = λ e f. (let q = h.1 (e - s) (to_head s e f) in omega arith);
  }
  here s l front None None h g = λ t e a f.
      ⊎_elim
      (λ (q : t ≡ s). h (e - s) (to_head s e (subst (λ n. FitsAt p line n e) q f)))
      (λ (q : t ≡ s → ⊥). g t e (omega arith) f)
      (cases_eq t s)
  here s l front None (Some m) h g = record {
    behind = (let q = g.behind in omega arith);
    fits = g.fits;
    first = λ t e a f.
        ⊎_elim
        (λ (q : t ≡ s). absurd (h (e - s) (to_head s e (subst (λ n. FitsAt p line n e) q f))))
        (λ (q : t ≡ s → ⊥). g.first t e (omega arith) f)
        (cases_eq t s);
    longest = g.longest;
  }

  -- by how many starts are left
  right_from : (n s : ℕ) (b : Bool) → p.front ≡ b → last_start b line + 1 ≤ s + n → IsMatch p line s (match_from p line s)
  right_from zero s b q h =
      let past : last_start b line < s = omega arith in
      subst (IsMatch p line s) (sym (match_past s b q past)) (λ t e a f. (let w = start-within t e b q f in omega arith))
  right_from (suc n) s b q h =
      ⊎_elim
      (λ (l : last_start b line < s).
      subst (IsMatch p line s) (sym (match_past s b q l)) (λ t e a f. (let w = start-within t e b q f in omega arith)))
      (λ (l : s ≤ last_start b line).
      subst (IsMatch p line s) (sym (match_step s b q l))
      (here s (inside-line s b l) (front-zero s b q l) (longest_run p.items p.back (drop s line)) (match_from p line (s + 1))
      (longest_right p.items p.back (drop s line)) (right_from n (s + 1) b q (omega arith))))
      (cases_lt (last_start b line) s)

pub matching_right : (p : Pattern) (line : Bytes) (from : ℕ) → MatchingRight p line from
matching_right p line from = right_from p line (last_start p.front line + 1) from p.front refl (omega arith)

pub matching_one : (p : Pattern) (line : Bytes) (from : ℕ) → MatchingOne p line from
matching_one p line from None None h g = refl
matching_one p line from None (Some n) h g = absurd (h n.start n.end g.behind g.fits)
matching_one p line from (Some m) None h g = absurd (g m.start m.end h.behind h.fits)
matching_one p line from (Some m) (Some n) h g =
    let a = h.first n.start n.end g.behind g.fits in
    let b = g.first m.start m.end h.behind h.fits in
    let s : m.start ≡ n.start = omega arith in
    let c : m.end ≤ n.end = g.longest m.end (subst (λ k. FitsAt p line k m.end) s h.fits) in
    let d : n.end ≤ m.end = h.longest n.end (subst (λ k. FitsAt p line k n.end) (sym s) g.fits) in
    let e : m.end ≡ n.end = omega arith in
    λ i. Some (record { start = s i; end = e i })

-- where a right answer lies
pub match_within : (p : Pattern) (line : Bytes) (from : ℕ) (x : Option Match) → IsMatch p line from x
    → IfSome x (λ m. (from ≤ m.start) × (m.start ≤ m.end) × (m.end ≤ length line))
match_within p line from None h = tt
match_within p line from (Some m) h = (h.behind, h.fits.forward, h.fits.inside)
