-- The first line with a fact, found among numbers.
use Rattle.std.proofs.Common.{◌≡◌, ℕ, zero, suc, ◌+◌, ◌-◌, ◌<◌, ◌≤◌, Bool, true, false, ◌⊎◌, List, length, get_or, take, drop, Some, None, Option, sym, ap, ◌∙◌, inl, inr, add-one, arith, MatchOption}
use Rattle.std.specs.Option.{option_map}
use Rattle.std.proofs.lemmas.Bool.{cases_lt}
use Rattle.std.proofs.lemmas.List.{at_drop_more, at_drop_all, get_or-map, get_or-take, length-map, length-take-le, take_all}
use Rattle.lines.specs.Line.{blank}
use Rattle.lines.specs.Store.{Store, line_at}
use Rattle.rules.specs.Lines.{Line, seen, seen_lines, first_where, has_mark}
use Rattle.tags.specs.Bearing.{bearing}

module _ (test : Line → Bool) (s : Store) where
  -- whether line i + 1 passes
  abbrev pub passes : ℕ → Bool
  passes i = test (seen (line_at s (i + 1)))

  module _ (to : ℕ) (le : to ≤ length s.lines) where
    abbrev among : ℕ → Option ℕ
    among i = first_where test (suc i) (drop i (take to (seen_lines s)))

    long : length (take to (seen_lines s)) ≡ to
    long = length-take-le to (seen_lines s) (omega (arith, length-map s.lines seen))

    among_none : (i : ℕ) → to ≤ i → among i ≡ None
    among_none i h = at_drop_all (first_where test (suc i)) (take to (seen_lines s)) i (omega (arith, long))

    module _ (i : ℕ) (h : i < to) where
      next : among i ≡ elim (passes i) as (λ _. Option ℕ) [ true ↦ Some (suc i) | false ↦ among (i + 1) ]
      next =
          let j : i + 1 - 1 ≡ i = omega arith in
          let it : get_or (take to (seen_lines s)) i (seen blank) ≡ seen (line_at s (i + 1)) =
          get_or-take to (seen_lines s) i (seen blank) h ∙ rw j (get_or-map seen s.lines i blank (seen blank) (omega arith)) in
          at_drop_more (first_where test (suc i)) (take to (seen_lines s)) i (seen blank) (omega (arith, long))
          ∙ ap (λ l. elim (test l) as (λ _. Option ℕ) [ true ↦ Some (suc i) | false ↦ first_where test (suc (suc i)) (drop (i + 1) (take to (seen_lines s))) ]) it
          ∙ ap (λ k. elim (passes i) as (λ _. Option ℕ) [ true ↦ Some (suc i) | false ↦ first_where test (suc k) (drop (i + 1) (take to (seen_lines s))) ]) (sym (add-one i))

      among_here : passes i ≡ true → among i ≡ Some (i + 1)
      among_here e = next ∙ rw (e, add-one i)

      among_behind : passes i ≡ false → among i ≡ among (i + 1)
      among_behind e = next ∙ rw e

    -- lines that don't pass are passed over
    among_over : (d i : ℕ) → i + d ≤ to → ((k : ℕ) → i ≤ k → k < i + d → passes k ≡ false) → among i ≡ among (i + d)
    among_over zero i h miss = let e : i ≡ i + 0 = omega arith in ap among e
    among_over (suc d) i h miss =
        let e : i + 1 + d ≡ i + suc d = omega arith in
        among_behind i (omega arith) (miss i (omega arith) (omega arith))
        ∙ among_over d (i + 1) (omega arith) (λ k a b. miss k (omega arith) (omega arith)) ∙ ap among e

    -- a search among the numbers from a up to the last line that counts
    pub found_among : (a : ℕ) (r : Option ℕ)
        → MatchOption r ((k : ℕ) → a ≤ k → k < to → passes k ≡ false) (λ i. (a ≤ i) × (i < to) × (passes i ≡ true) × ((k : ℕ) → a ≤ k → k < i → passes k ≡ false))
        → option_map (λ i. i + 1) r ≡ first_where test (suc a) (drop a (take to (seen_lines s)))
    found_among a (Some i) f =
        let back : a + (i - a) ≡ i = let l = f.0 in omega arith in
        let h : i < to = f.1 in
        sym (among_over (i - a) a (omega arith) (λ k l m. f.3 k l (omega arith)) ∙ ap among back ∙ among_here i h f.2)
    found_among a None f = sym (by (cases_lt a to))
      where
        by : (a < to) ⊎ (to ≤ a) → among a ≡ None
        by (inl l) =
            let back : a + (to - a) ≡ to = omega arith in
            among_over (to - a) a (omega arith) (λ k u v. f k u (omega arith)) ∙ ap among back ∙ among_none to (omega arith)
        by (inr l) = among_none a l

  -- and up to the last line of all
  pub found_first : (a n : ℕ) (r : Option ℕ) → n ≡ length s.lines
      → MatchOption r ((k : ℕ) → a ≤ k → k < n → passes k ≡ false) (λ i. (a ≤ i) × (i < n) × (passes i ≡ true) × ((k : ℕ) → a ≤ k → k < i → passes k ≡ false))
      → option_map (λ i. i + 1) r ≡ first_where test (suc a) (drop a (seen_lines s))
  found_first a n r e f =
      let all : take n (seen_lines s) ≡ seen_lines s = take_all n (seen_lines s) (omega (arith, length-map s.lines seen)) in
      found_among n (omega arith) a r f ∙ ap (λ (ls : List Line). first_where test (suc a) (drop a ls)) all

-- the same of a mark
pub found_bearing : (k : ℕ) (s : Store) (n : ℕ) (r : Option ℕ) → n ≡ length s.lines
    → MatchOption r ((i : ℕ) → 0 ≤ i → i < n → bearing k s (i + 1) ≡ false) (λ i. (0 ≤ i) × (i < n) × (bearing k s (i + 1) ≡ true) × ((j : ℕ) → 0 ≤ j → j < i → bearing k s (j + 1) ≡ false))
    → option_map (λ i. i + 1) r ≡ first_where (has_mark k) 1 (seen_lines s)
unfolding bearing
found_bearing k s n r e f = found_first (has_mark k) s 0 n r e f
