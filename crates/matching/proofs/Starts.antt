-- Starts at which nothing fits, and how a search goes past them.
use Rattle.std.proofs.Common.{◌≡◌, ℕ, zero, suc, ◌+◌, ◌-◌, ◌<◌, ◌≤◌, Bool, true, false, List, [], ◌∷◌, map, length, get_or, drop, Some, None, Option, sym, refl, ap, ◌∙◌, ⊎_elim, add-zero, arith}
use Rattle.std.specs.Option.{option_map}
use Rattle.std.proofs.lemmas.List.{drop_more, get_or-drop}
use Rattle.std.proofs.lemmas.Bool.{cases_lt, cases_eq}
use Rattle.patterns.specs.declared.pattern.Item.{Item as ItemCode}
use Rattle.patterns.specs.Sets.{has}
use Rattle.patterns.specs.Items.{Bytes, Item, Pattern}
use Rattle.matching.specs.Matching.{longer, further, once, many, longest_run, match_from}
use Rattle.matching.specs.Rows.{longest_end}
use Rattle.patterns.specs.View.{item_of}
use Rattle.matching.proofs.Found.{last_start, or_later, match_past, match_step}

none-size : (s : ℕ) (x : Option ℕ) → option_map (λ k. s + k) x ≡ None → x ≡ None
none-size s None e = refl
none-size s (Some k) e = absurd (let z : ◌≡◌ {A = ℕ} 0 1 = cc in omega arith)

longer_none : (x y : Option ℕ) → longer x y ≡ None → y ≡ None
longer_none None y e = e
longer_none (Some j) None e = refl
longer_none (Some j) (Some k) e = absurd (let z : ◌≡◌ {A = ℕ} 0 1 = cc in omega arith)

further_none : (x : Option ℕ) → further x ≡ None → x ≡ None
further_none None e = refl
further_none (Some k) e = absurd (let z : ◌≡◌ {A = ℕ} 0 1 = cc in omega arith)

module _ (i : Item) (is : List Item) (back : Bool) (line : Bytes) where
  run-starred : i.starred ≡ true → (bs : Bytes) → longest_run (i ∷ is) back bs ≡ many i.set (longest_run is back) bs
  run-starred e bs =
      ap (λ t. elim t as (λ _. Option ℕ) [ true ↦ many i.set (longest_run is back) bs | false ↦ once i.set (longest_run is back) bs ]) e

  run-once : i.starred ≡ false → (bs : Bytes) → longest_run (i ∷ is) back bs ≡ once i.set (longest_run is back) bs
  run-once e bs =
      ap (λ t. elim t as (λ _. Option ℕ) [ true ↦ many i.set (longest_run is back) bs | false ↦ once i.set (longest_run is back) bs ]) e

  -- what fits behind a byte that a starred first item takes also fits with it
  none_behind : i.starred ≡ true → (b : ℕ) (bs : Bytes) → has i.set b ≡ true → longest_run (i ∷ is) back (b ∷ bs) ≡ None → longest_run (i ∷ is) back bs ≡ None
  none_behind star b bs h e =
      let f = longest_run is back in
      let split : many i.set f (b ∷ bs) ≡ longer (f (b ∷ bs)) (further (many i.set f bs)) =
      ap (λ t. longer (f (b ∷ bs)) (elim t as (λ _. Option ℕ) [ true ↦ further (many i.set f bs) | false ↦ None ])) h in
      run-starred star bs
      ∙ further_none (many i.set f bs)
      (longer_none (f (b ∷ bs)) (further (many i.set f bs)) (sym split ∙ sym (run-starred star (b ∷ bs)) ∙ e))

  starred_on : i.starred ≡ true → (s : ℕ) → s < length line → has i.set (get_or line s 0) ≡ true
      → longest_run (i ∷ is) back (drop s line) ≡ None → longest_run (i ∷ is) back (drop (s + 1) line) ≡ None
  starred_on star s l h e =
      none_behind star (get_or line s 0) (drop (s + 1) line) h (ap (longest_run (i ∷ is) back) (sym (drop_more line s 0 l)) ∙ e)

  starred-run : i.starred ≡ true → (start n : ℕ) → start + n ≤ length line → ((k : ℕ) → k < n → has i.set (get_or (drop start line) k 0) ≡ true)
      → longest_run (i ∷ is) back (drop start line) ≡ None → longest_run (i ∷ is) back (drop (start + n) line) ≡ None
  starred-run star start zero l h e = ap (λ k. longest_run (i ∷ is) back (drop k line)) (add-zero start) ∙ e
  starred-run star start (suc n) l h e =
      let step : start + suc n ≡ start + n + 1 = omega arith in
      ap (λ k. longest_run (i ∷ is) back (drop k line)) step
      ∙ starred_on star (start + n) (omega arith) (simp get_or-drop at (h n (omega arith)))
      (starred-run star start n (omega arith) (λ k a. h k (omega arith)) e)

  -- a starred first item: none of the starts along n bytes of its set, and none right behind them
  pub starred_hopeless : i.starred ≡ true → (start n : ℕ) → start + n ≤ length line
      → ((k : ℕ) → k < n → has i.set (get_or (drop start line) k 0) ≡ true)
      → longest_end (i ∷ is) back line start ≡ None → (s : ℕ) → start ≤ s → s < start + 1 + n → longest_end (i ∷ is) back line s ≡ None
  starred_hopeless star start n l h e s a b =
      let k : start + (s - start) ≡ s = omega arith in
      ap (option_map (λ n. s + n))
      (ap (λ n. longest_run (i ∷ is) back (drop n line)) (sym k)
      ∙ starred-run star start (s - start) (omega arith) (λ t x. h t (omega arith)) (none-size start (longest_run (i ∷ is) back (drop start line)) e))

  -- an unstarred one: no start without a byte of its set
  once_none : i.starred ≡ false → (s : ℕ) → s < length line → has i.set (get_or line s 0) ≡ false → longest_end (i ∷ is) back line s ≡ None
  once_none plain s l h =
      ap (option_map (λ n. s + n))
      (ap (longest_run (i ∷ is) back) (drop_more line s 0 l)
      ∙ run-once plain (get_or line s 0 ∷ drop (s + 1) line)
      ∙ ap (λ t. elim t as (λ _. Option ℕ) [ true ↦ further (longest_run is back (drop (s + 1) line)) | false ↦ None ]) h)

  pub once_hopeless : i.starred ≡ false → (start n : ℕ) → start + 1 + n ≤ length line
      → ((k : ℕ) → k < n → has i.set (get_or (drop (start + 1) line) k 0) ≡ false)
      → longest_end (i ∷ is) back line start ≡ None → (s : ℕ) → start ≤ s → s < start + 1 + n → longest_end (i ∷ is) back line s ≡ None
  once_hopeless plain start n l h e s a b =
      ⊎_elim
      (λ (q : s ≡ start). ap (λ n. longest_end (i ∷ is) back line n) q ∙ e)
      (λ (q : s ≡ start → ⊥).
      let k : start + 1 + (s - (start + 1)) ≡ s = omega arith in
      let there = simp get_or-drop at (h (s - (start + 1)) (omega arith)) in
      once_none plain s (omega arith) (ap (λ t. has i.set (get_or line t 0)) (sym k) ∙ there))
      (cases_eq s start)

-- a search goes on past the starts at which nothing fits
module _ (p : Pattern) (line : Bytes) where
  pass_one : (t : ℕ) → longest_end p.items p.back line t ≡ None → match_from p line t ≡ match_from p line (t + 1)
  pass_one t e =
      ⊎_elim
      (λ (l : last_start p.front line < t). match_past p line t p.front refl l ∙ sym (match_past p line (t + 1) p.front refl (omega arith)))
      (λ (l : t ≤ last_start p.front line).
      match_step p line t p.front refl l
      ∙ ap (λ x. or_later t x (match_from p line (t + 1))) (none-size t (longest_run p.items p.back (drop t line)) e))
      (cases_lt (last_start p.front line) t)

  pass-run : (s n : ℕ) → ((t : ℕ) → s ≤ t → t < s + n → longest_end p.items p.back line t ≡ None) → match_from p line s ≡ match_from p line (s + n)
  pass-run s zero h = ap (match_from p line) (sym (add-zero s))
  pass-run s (suc n) h =
      let step : s + suc n ≡ s + n + 1 = omega arith in
      pass-run s n (λ t a b. h t a (omega arith)) ∙ pass_one (s + n) (h (s + n) (omega arith) (omega arith)) ∙ ap (match_from p line) (sym step)

  pub pass : (s r : ℕ) → s ≤ r → ((t : ℕ) → s ≤ t → t < r → longest_end p.items p.back line t ≡ None) → match_from p line s ≡ match_from p line r
  pass s r l h = let e : s + (r - s) ≡ r = omega arith in pass-run s (r - s) (λ t a b. h t a (omega arith)) ∙ ap (match_from p line) e

  -- and stops at the first at which something does
  pub stop : (s e : ℕ) → s ≤ last_start p.front line → Some e ≡ longest_end p.items p.back line s → Some (record { start = s; end = e }) ≡ match_from p line s
  stop s e l h = go (longest_run p.items p.back (drop s line)) h ∙ sym (match_step p line s p.front refl l)
    where
      go : (x : Option ℕ) → Some e ≡ option_map (λ k. s + k) x → Some (record { start = s; end = e }) ≡ or_later s x (match_from p line (s + 1))
      go None q = absurd (let z : ◌≡◌ {A = ℕ} 0 1 = cc in omega arith)
      go (Some k) q = let w : e ≡ s + k = cc in ap (λ n. Some (record { start = s; end = n })) w

  pub no_more : (s : ℕ) → last_start p.front line < s → None ≡ match_from p line s
  no_more s l = sym (match_past p line s p.front refl l)

-- the meaning of items, by the first of them
pub first_mapped : (items : List ItemCode) (first : ItemCode) → 0 < length items → first ≡ get_or items 0 first → map item_of items ≡ item_of first ∷ map item_of (drop 1 items)
first_mapped [] first h e = absurd (omega (arith, h))
first_mapped (x ∷ xs) first h e = ap (λ y. item_of y ∷ map item_of xs) (sym e)
