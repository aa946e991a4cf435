-- One item more over a row of places: what holds while the row is gone through, and at its end.
use Rattle.std.proofs.Common.{◌≡◌, ℕ, zero, suc, ◌+◌, ◌-◌, ◌<◌, ◌≤◌, Bool, true, false, ◌&&◌, ◌||◌, ltb, List, ◌++◌, length, get_or, take, drop, set, replicate, Some, None, IfSome, MatchOption, Option, sym, refl, ap, ◌∙◌, ⊎_elim, suc-add, zero-add, add-one, arith}
use Rattle.std.proofs.lemmas.List.{places, get_or-set_same, get_or-set_other, length-set}
use Rattle.std.proofs.lemmas.Bool.{both_ways, cases_eq, cases_lt, and_left, and_right, or_left, lt-ltb, le-ltb, and_parts, and_from, or_from, or_right, ltb-true}
use Rattle.patterns.specs.Sets.{has}
use Rattle.patterns.specs.Items.{Bytes, Item}
use Rattle.matching.specs.declared.reach.Reach.{Reach}
use Rattle.matching.specs.Rows.{reached, byte_in, by_byte, taken, Spans, NoneReached}

-- a flag that is not true
pub not-reached : (t : Bool) → (t ≡ true → ⊥) → t ≡ false
not-reached true h = absurd (h refl)
not-reached false h = refl

-- where nothing is reached, one item more reaches nothing
module _ (i : Item) (line : Bytes) (row : List Bool) where
  step_none : (p : ℕ) → by_byte i line row p ≡ false → reached row p ≡ false → by_byte i line row (suc p) ≡ false
  step_none p a b =
      ap (λ t. ((i.starred && t) || reached row p) && byte_in i.set line p) a
      ∙ ap (λ t. ((i.starred && false) || t) && byte_in i.set line p) b
      ∙ ap (λ t. (t || false) && byte_in i.set line p) (and_right i.starred false refl)

  pub taken_none : (p : ℕ) → by_byte i line row p ≡ false → reached row p ≡ false → taken i line row p ≡ false
  taken_none p a b = or_from (by_byte i line row p) (i.starred && reached row p) a (and_right i.starred (reached row p) b)

  -- in front of the lowest place
  pub below_none : (low : ℕ) → ((p : ℕ) → p < low → reached row p ≡ false) → (p : ℕ) → p ≤ low → by_byte i line row p ≡ false
  below_none low none zero h = refl
  below_none low none (suc p) h = step_none p (below_none low none p (omega arith)) (none p (omega arith))

  -- behind the highest place, once no byte leads further
  beyond_none : (start : ℕ) → by_byte i line row start ≡ false → ((p : ℕ) → start ≤ p → reached row p ≡ false) → (n : ℕ) → by_byte i line row (n + start) ≡ false
  beyond_none start a none zero = ap (by_byte i line row) (zero-add start) ∙ a
  beyond_none start a none (suc n) =
      ap (by_byte i line row) (suc-add n start) ∙ step_none (n + start) (beyond_none start a none n) (none (n + start) (omega arith))

-- a reach of an item, among the places below p
pub record Reaches (i : Item) (line : Bytes) (old : List Bool) (p : ℕ) (r : Reach) : Type 0 where
  pub inside : (k : ℕ) → k < p → taken i line old k ≡ true → (r.low ≤ k) × (k < r.end)
  pub top : taken i line old (r.end - 1) ≡ true
  pub below : r.end ≤ p
  pub filled : r.low + r.count ≡ r.end → (k : ℕ) → r.low ≤ k → k < r.end → taken i line old k ≡ true

-- what is reached below p
abbrev pub ReachedBelow : Item → Bytes → List Bool → ℕ → Option Reach → Type 0
ReachedBelow i line old p None = (k : ℕ) → k < p → taken i line old k ≡ false
ReachedBelow i line old p (Some r) = Reaches i line old p r

-- a row half gone through: places below p are done, and `carry` says whether a byte leads to p
pub record Halfway (i : Item) (line : Bytes) (old row : List Bool) (p : ℕ) (carry : Bool) (next : Option Reach) : Type 0 where
  pub long : length row ≡ length old
  pub short : p ≤ length line + 1
  pub carries : carry ≡ true → p ≤ length line
  pub carried : carry ≡ by_byte i line old p
  pub done : (k : ℕ) → k < p → reached row k ≡ taken i line old k
  pub todo : (k : ℕ) → p ≤ k → reached row k ≡ reached old k
  pub found : ReachedBelow i line old p next

-- what is reached lies below p
pub ends_below : (i : Item) (line : Bytes) (old : List Bool) (p : ℕ) (next : Option Reach) → ReachedBelow i line old p next
    → (n : ℕ) → p ≤ n → IfSome next (λ r. r.end ≤ n)
ends_below i line old p None h n l = tt
ends_below i line old p (Some r) h n l = let b = h.below in omega arith

module _ (i : Item) (line : Bytes) (old : List Bool) (from : Reach) (spans : Spans old from) (within : from.end ≤ length line + 1) (room : length line < length old) where
  outside_low : (k : ℕ) → k < from.low → reached old k ≡ false
  outside_low k h = not-reached (reached old k) (λ t. (let q = spans.inside k t in omega arith))

  outside_end : (k : ℕ) → from.end ≤ k → reached old k ≡ false
  outside_end k h = not-reached (reached old k) (λ t. (let q = spans.inside k t in omega arith))

  nothing : (k : ℕ) → k < from.low → taken i line old k ≡ false
  nothing k h = taken_none i line old k (below_none i line old from.low outside_low k (omega arith)) (outside_low k h)

  -- from the lowest place on
  pub half_begun : Halfway i line old old from.low false None
  half_begun =
      let q = spans.inside (from.end - 1) spans.top in
      record {
        long = refl;
        short = omega arith;
        carries = λ t. absurd (both_ways false refl t);
        carried = sym (below_none i line old from.low outside_low from.low (omega arith));
        done = λ k h. outside_low k h ∙ sym (nothing k h);
        todo = λ k h. refl;
        found = nothing;
      }

  -- from the end on, where a starred item leaves all as it is
  module _ (star : i.starred ≡ true) (whole : from.low + from.count ≡ from.end) where
    stays : (k : ℕ) → from.low ≤ k → k < from.end → taken i line old k ≡ true
    stays k a b = or_right (by_byte i line old k) (i.starred && reached old k) (and_from i.starred (reached old k) star (spans.filled whole k a b))

    kept_byte : (q : ℕ) → reached old q ≡ true → byte_in i.set line q ≡ by_byte i line old (suc q)
    kept_byte q t = sym (ap (λ x. x && byte_in i.set line q) (or_right (i.starred && by_byte i line old q) (reached old q) t))

    -- and reaches n places more along a run of its bytes
    module _ (n : ℕ) (fits : from.end + n ≤ length line + 1)
        (run : (k : ℕ) → k < n → has i.set (get_or line (from.end - 1 + k) 0) ≡ true)
        (stop : from.end - 1 + n < length line → has i.set (get_or line (from.end - 1 + n) 0) ≡ false) where
      byte_at : (k : ℕ) → k < n → byte_in i.set line (from.end - 1 + k) ≡ true
      byte_at k h =
          let some : from.low < from.end = from.some in
          and_from (ltb (from.end - 1 + k) (length line)) (has i.set (get_or line (from.end - 1 + k) 0)) (lt-ltb (from.end - 1 + k) (length line) (omega arith)) (run k h)

      led_on : (k : ℕ) → k < n → by_byte i line old (from.end + k) ≡ true
      led_on zero h =
          let some : from.low < from.end = from.some in
          let e : from.end + 0 ≡ suc (from.end - 1) = omega arith in
          let z : from.end - 1 + 0 ≡ from.end - 1 = omega arith in
          ap (by_byte i line old) e ∙ sym (kept_byte (from.end - 1) spans.top) ∙ ap (byte_in i.set line) (sym z) ∙ byte_at zero h
      led_on (suc k) h =
          let some : from.low < from.end = from.some in
          let e : from.end + suc k ≡ suc (from.end + k) = omega arith in
          let z : from.end + k ≡ from.end - 1 + suc k = omega arith in
          ap (by_byte i line old) e
          ∙ and_from ((i.starred && by_byte i line old (from.end + k)) || reached old (from.end + k)) (byte_in i.set line (from.end + k))
          (or_left (i.starred && by_byte i line old (from.end + k)) (reached old (from.end + k)) (and_from i.starred (by_byte i line old (from.end + k)) star (led_on k (omega arith))))
          (ap (byte_in i.set line) z ∙ byte_at (suc k) h)

      no_byte : byte_in i.set line (from.end - 1 + n) ≡ false
      no_byte =
          ⊎_elim
          (λ (l : from.end - 1 + n < length line). and_right (ltb (from.end - 1 + n) (length line)) (has i.set (get_or line (from.end - 1 + n) 0)) (stop l))
          (λ (l : length line ≤ from.end - 1 + n). and_left (ltb (from.end - 1 + n) (length line)) (has i.set (get_or line (from.end - 1 + n) 0)) (le-ltb (from.end - 1 + n) (length line) l))
          (cases_lt (from.end - 1 + n) (length line))

      not_led : by_byte i line old (from.end + n) ≡ false
      not_led =
          let some : from.low < from.end = from.some in
          let e : from.end + n ≡ suc (from.end - 1 + n) = omega arith in
          ap (by_byte i line old) e
          ∙ and_right ((i.starred && by_byte i line old (from.end - 1 + n)) || reached old (from.end - 1 + n)) (byte_in i.set line (from.end - 1 + n)) no_byte

      in_run : (p : ℕ) → from.low ≤ p → p < from.end + n → taken i line old p ≡ true
      in_run p a b =
          ⊎_elim
          (λ (l : p < from.end). stays p a l)
          (λ (l : from.end ≤ p).
          let e : from.end + (p - from.end) ≡ p = omega arith in
          or_left (by_byte i line old p) (i.starred && reached old p) (ap (by_byte i line old) (sym e) ∙ led_on (p - from.end) (omega arith)))
          (cases_lt p from.end)

      behind_run : (p : ℕ) → from.end + n ≤ p → taken i line old p ≡ false
      behind_run p h =
          let e : p - (from.end + n) + (from.end + n) ≡ p = omega arith in
          taken_none i line old p
          (ap (by_byte i line old) (sym e) ∙ beyond_none i line old (from.end + n) not_led (λ q l. outside_end q (omega arith)) (p - (from.end + n)))
          (outside_end p (omega arith))

      module _ (mid : List Bool) (size : ℕ) (width : size ≡ n) (long : length mid ≡ size) (full : (k : ℕ) → k < length mid → get_or mid k false ≡ true) where
        abbrev grown : List Bool
        grown = take from.end old ++ (mid ++ drop size (drop from.end old))

        pub run_after : (p : ℕ) → reached grown p ≡ taken i line old p
        run_after p =
            ⊎_elim
            (λ (l : p < from.low). let t = nothing p l in let o = outside_low p l in let s = from.some in let g : reached grown p ≡ reached old p = grind (arith, places) in g ∙ o ∙ sym t)
            (λ (l : from.low ≤ p).
            ⊎_elim
            (λ (b : p < from.end). let g : reached grown p ≡ reached old p = grind (arith, places) in g ∙ spans.filled whole p l b ∙ sym (stays p l b))
            (λ (b : from.end ≤ p).
            ⊎_elim
            (λ (c : p < from.end + n). let m = full (p - from.end) (omega arith) in let g : reached grown p ≡ true = grind (arith, places) in g ∙ sym (in_run p l c))
            (λ (c : from.end + n ≤ p). let g : reached grown p ≡ reached old p = grind (arith, places) in g ∙ outside_end p b ∙ sym (behind_run p c))
            (cases_lt p (from.end + n)))
            (cases_lt p from.end))
            (cases_lt p from.low)

        pub run_spans : (r : Reach) → r.low ≡ from.low → r.end ≡ from.end + n → Spans grown r
        run_spans r a b = record {
          inside = λ p t.
              ⊎_elim
              (λ (l : p < from.low). absurd (both_ways (taken i line old p) (nothing p l) (sym (run_after p) ∙ t)))
              (λ (l : from.low ≤ p).
              ⊎_elim
              (λ (c : p < from.end + n). (omega arith, omega arith))
              (λ (c : from.end + n ≤ p). absurd (both_ways (taken i line old p) (behind_run p c) (sym (run_after p) ∙ t)))
              (cases_lt p (from.end + n)))
              (cases_lt p from.low);
          top = (let s = r.some in let f = from.some in run_after (r.end - 1) ∙ in_run (r.end - 1) (omega arith) (omega arith));
          filled = λ s p c d. run_after p ∙ in_run p (omega arith) (omega arith);
        }

  module _ (row : List Bool) (p : ℕ) (carry : Bool) (next : Option Reach) (half : Halfway i line old row p carry next) where
    abbrev here : Bool
    here = carry || (i.starred && reached row p)

    here_is : here ≡ taken i line old p
    here_is =
        ap (λ t. carry || (i.starred && t)) (half.todo p (omega arith)) ∙ ap (λ t. t || (i.starred && reached old p)) half.carried

    -- the place p is done
    module _ (inside : p ≤ length line) where
      fits : p < length row
      fits = omega (arith, half.long)

      done_more : (k : ℕ) → k < p + 1 → reached (set row p here) k ≡ taken i line old k
      done_more k h =
          ⊎_elim
          (λ (e : k ≡ p). ap (λ n. reached (set row p here) n) e ∙ get_or-set_same row p here false fits ∙ here_is ∙ ap (taken i line old) (sym e))
          (λ (n : k ≡ p → ⊥). get_or-set_other row p k here false n ∙ half.done k (omega arith))
          (cases_eq k p)

      todo_more : (k : ℕ) → p + 1 ≤ k → reached (set row p here) k ≡ reached old k
      todo_more k h = get_or-set_other row p k here false (λ e. omega arith) ∙ half.todo k (omega arith)

      module _ (b : Bool) (e : b ≡ byte_in i.set line p) where
        carried_more : (((i.starred && carry) || reached row p) && b) ≡ by_byte i line old (p + 1)
        carried_more =
            ap (λ t. ((i.starred && carry) || reached row p) && t) e
            ∙ ap (λ t. ((i.starred && carry) || t) && byte_in i.set line p) (half.todo p (omega arith))
            ∙ ap (λ t. ((i.starred && t) || reached old p) && byte_in i.set line p) half.carried
            ∙ ap (by_byte i line old) (sym (add-one p))

        carries_more : (((i.starred && carry) || reached row p) && b) ≡ true → p + 1 ≤ length line
        carries_more t =
            let q = and_parts ((i.starred && carry) || reached row p) b t in
            let r = and_parts (ltb p (length line)) (has i.set (get_or line p 0)) (sym e ∙ q.1) in
            omega (arith, ltb-true p (length line) r.0)

        pub half_on : (then : Option Reach) → ReachedBelow i line old (p + 1) then
            → Halfway i line old (set row p here) (p + 1) (((i.starred && carry) || reached row p) && b) then
        half_on then f = record {
          long = length-set row p here ∙ half.long;
          short = omega arith;
          carries = carries_more;
          carried = carried_more;
          done = done_more;
          todo = todo_more;
          found = f;
        }

    -- not reached: what is reached below stays
    pub below_missed : here ≡ false → ReachedBelow i line old (p + 1) next
    below_missed f = go next half.found
      where
        not_here : (k : ℕ) → k ≡ p → taken i line old k ≡ false
        not_here k e = ap (taken i line old) e ∙ sym here_is ∙ f

        go : (x : Option Reach) → ReachedBelow i line old p x → ReachedBelow i line old (p + 1) x
        go None n = λ k h. ⊎_elim (λ (q : k ≡ p). not_here k q) (λ (q : k ≡ p → ⊥). n k (omega arith)) (cases_eq k p)
        go (Some r) n = record {
          inside = λ k h t.
              ⊎_elim
              (λ (q : k ≡ p). absurd (both_ways (taken i line old k) (not_here k q) t))
              (λ (q : k ≡ p → ⊥). n.inside k (omega arith) t)
              (cases_eq k p);
          top = n.top;
          below = (let q = n.below in omega arith);
          filled = n.filled;
        }

    -- reached: the places reached end behind it, and they begin there if it is the first
    pub below_hit : here ≡ true → (r : Reach)
        → MatchOption next ((r.low ≡ p) × (r.end ≡ p + 1) × (r.count ≡ 1)) (λ q. (r.low ≡ q.low) × (r.end ≡ p + 1) × (r.count ≡ q.count + 1))
        → ReachedBelow i line old (p + 1) (Some r)
    below_hit f r m = go next half.found m
      where
        is_here : (k : ℕ) → k ≡ p → taken i line old k ≡ true
        is_here k e = ap (taken i line old) e ∙ sym here_is ∙ f

        go : (x : Option Reach) → ReachedBelow i line old p x
            → MatchOption x ((r.low ≡ p) × (r.end ≡ p + 1) × (r.count ≡ 1)) (λ q. (r.low ≡ q.low) × (r.end ≡ p + 1) × (r.count ≡ q.count + 1))
            → Reaches i line old (p + 1) r
        go None n m = record {
          inside = λ k h t.
              ⊎_elim
              (λ (q : k < p). absurd (both_ways (taken i line old k) (n k q) t))
              (λ (q : p ≤ k). let a = m.0 in let b = m.1 in (omega arith, omega arith))
              (cases_lt k p);
          top = is_here (r.end - 1) (omega (arith, m.1));
          below = omega (arith, m.1);
          filled = λ s k a b. is_here k (omega (arith, m.0, m.1));
        }
        go (Some q) n m = record {
          inside = λ k h t.
              ⊎_elim
              (λ (l : k < p). (let z = n.inside k l t in let a = m.0 in let b = m.1 in (omega arith, omega arith)))
              (λ (l : p ≤ k). (let z = n.below in let y = q.some in let a = m.0 in let b = m.1 in (omega arith, omega arith)))
              (cases_lt k p);
          top = is_here (r.end - 1) (omega (arith, m.1));
          below = omega (arith, m.1);
          filled = λ s k a b.
              (let whole : (q.low + q.count ≡ q.end) × (p ≡ q.end) = (let z = q.few in let y = n.below in let m0 = m.0 in let m1 = m.1 in let m2 = m.2 in (omega arith, omega arith)) in
              ⊎_elim
              (λ (l : k < q.end). n.filled whole.0 k (omega (arith, m.0)) l)
              (λ (l : q.end ≤ k). is_here k (omega (arith, m.1, whole.1)))
              (cases_lt k q.end));
        }

    -- all is done where no place is left and no byte leads further
    module _ (past : from.end ≤ p) (stuck : carry ≡ false) where
      stopped : (k : ℕ) → p ≤ k → taken i line old k ≡ false
      stopped k h =
          let e : k - p + p ≡ k = omega arith in
          taken_none i line old k
          (ap (by_byte i line old) (sym e)
          ∙ beyond_none i line old p (sym half.carried ∙ stuck) (λ n l. outside_end n (omega arith)) (k - p))
          (outside_end k (omega arith))

      pub half_over : (k : ℕ) → reached row k ≡ taken i line old k
      half_over k =
          ⊎_elim
          (λ (l : k < p). half.done k l)
          (λ (l : p ≤ k). half.todo k l ∙ outside_end k (omega arith) ∙ sym (stopped k l))
          (cases_lt k p)

      pub half_spans : MatchOption next (NoneReached row) (λ r. Spans row r)
      half_spans = go next half.found
        where
          go : (x : Option Reach) → ReachedBelow i line old p x → MatchOption x (NoneReached row) (λ r. Spans row r)
          go None n = λ k.
              half_over k ∙ ⊎_elim (λ (l : k < p). n k l) (λ (l : p ≤ k). stopped k l) (cases_lt k p)
          go (Some r) n = record {
            inside = λ k t.
                ⊎_elim
                (λ (l : k < p). n.inside k l (sym (half_over k) ∙ t))
                (λ (l : p ≤ k). absurd (both_ways (reached row k) (half_over k ∙ stopped k l) t))
                (cases_lt k p);
            top = half_over (r.end - 1) ∙ n.top;
            filled = λ s k a b. half_over k ∙ n.filled s k a b;
          }

-- a row with no flag
pub clear_row : (n : ℕ) → NoneReached (replicate n false)
clear_row zero p = refl
clear_row (suc n) zero = refl
clear_row (suc n) (suc p) = clear_row n p

-- a row whose reach is taken back
pub cleared : (row mid : List Bool) (r : Reach) → Spans row r → r.end ≤ length row → length mid ≡ r.end - r.low
    → ((k : ℕ) → k < length mid → get_or mid k false ≡ false)
    → NoneReached (take r.low row ++ (mid ++ drop (r.end - r.low) (drop r.low row)))
cleared row mid r spans within long none p =
    let some : r.low < r.end = r.some in
    ⊎_elim
    (λ (h : p < r.low).
    let old = not-reached (reached row p) (λ t. (let q = spans.inside p t in omega arith)) in grind (arith, places))
    (λ (h : r.low ≤ p).
    ⊎_elim
    (λ (l : p < r.end). let new = none (p - r.low) (omega arith) in grind (arith, places))
    (λ (l : r.end ≤ p). let old = not-reached (reached row p) (λ t. (let q = spans.inside p t in omega arith)) in grind (arith, places))
    (cases_lt p r.end))
    (cases_lt p r.low)
