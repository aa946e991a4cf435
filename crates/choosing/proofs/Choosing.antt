-- Lines chosen anew one after another, and counted.
use Rattle.std.proofs.Common.{◌≡◌, ℕ, zero, suc, ◌+◌, ◌-◌, ◌<◌, ◌≤◌, Bool, true, false, List, [], ◌∷◌, length, get_or, take, sym, refl, ap, ◌∙◌, add-one, arith}
use Rattle.std.proofs.lemmas.List.{get_or-map, length-map, take_all}
use Rattle.lines.specs.Line.{blank}
use Rattle.lines.specs.Store.{Store, line_at}
use Rattle.rules.specs.Globals.{choice, chosen_in, one_if}
use Rattle.rules.specs.Lines.{Line, seen, seen_lines, choosing, on_line}

-- one more line of which it is known whether it is chosen
pub count_more : (b : Bool) (i : ℕ) (ls : List Line) → i < length ls
    → chosen_in (take (suc i) (on_line (suc i) (choosing b) ls)) ≡ chosen_in (take i ls) + one_if b
count_more b i [] h = absurd (omega arith)
count_more b zero (l ∷ ls) h = omega arith
count_more b (suc i) (l ∷ ls) h = omega (arith, count_more b i ls (omega arith))

-- a count that went up where a line is chosen
pub one_more : (b : Bool) (m n : ℕ) → b ≡ true → m ≡ n + 1 → m ≡ n + one_if b
one_more b m n h e = e ∙ ap (λ (c : Bool). n + one_if c) (sym h)

pub none_more : (b : Bool) (m n : ℕ) → b ≡ false → m ≡ n → m ≡ n + one_if b
none_more b m n h e = omega (arith, ap one_if h)

one_le : (b : Bool) → one_if b ≤ 1
one_le true = omega arith
one_le false = omega arith

module _ (want : ℕ → List ℕ → Bool) where
  -- the first i lines chosen anew, the first having number n
  abbrev pub first_chosen : ℕ → ℕ → List Line → List Line
  first_chosen zero n ls = ls
  first_chosen (suc i) n [] = []
  first_chosen (suc i) n (l ∷ ls) = choosing (want n l.text) l ∷ first_chosen i (suc n) ls

  -- the next line is as it was when it is asked
  first_more : (i n m : ℕ) (ls : List Line) (d : Line) → m ≡ n + i
      → on_line (suc i) (choosing (want m (get_or (first_chosen i n ls) i d).text)) (first_chosen i n ls) ≡ first_chosen (suc i) n ls
  first_more zero n m [] d e = refl
  first_more zero n m (l ∷ ls) d e =
      let same : m ≡ n = omega arith in ap (λ (k : ℕ). choosing (want k l.text) l ∷ ls) same
  first_more (suc i) n m [] d e = refl
  first_more (suc i) n m (l ∷ ls) d e = ap (λ r. choosing (want n l.text) l ∷ r) (first_more i (suc n) m ls d (omega arith))

  first_all : (i n : ℕ) (ls : List Line) → length ls ≤ i → first_chosen i n ls ≡ choice want n ls
  first_all zero n [] h = refl
  first_all zero n (l ∷ ls) h = absurd (omega arith)
  first_all (suc i) n [] h = refl
  first_all (suc i) n (l ∷ ls) h = ap (λ r. choosing (want n l.text) l ∷ r) (first_all i (suc n) ls (omega arith))

  -- a walk that has chosen among the first i lines of a store, and counted
  pub record Walked (i count : ℕ) (s x : Store) : Type 0 where
    pub lines : seen_lines x ≡ first_chosen i 1 (seen_lines s)
    pub counted : count ≡ chosen_in (take i (seen_lines x))
    pub within : count ≤ i
    pub size : length x.lines ≡ length s.lines
    pub capacity : x.capacity ≡ s.capacity

  -- line i + 1, the next one, chosen as it is wanted
  pub walked_more : (i count count' : ℕ) (s x y : Store) (b : Bool) → Walked i count s x → i < length s.lines
      → b ≡ want (i + 1) (line_at x (i + 1)).text → seen_lines y ≡ on_line (i + 1) (choosing b) (seen_lines x)
      → length y.lines ≡ length x.lines → y.capacity ≡ x.capacity → count' ≡ count + one_if b → Walked (i + 1) count' s y
  walked_more i count count' s x y b w h asked e size capacity one =
      let back : i + 1 - 1 ≡ i = omega arith in
      let long : i < length (seen_lines x) = omega (arith, length-map x.lines seen, w.size) in
      let here : (line_at x (i + 1)).text ≡ (get_or (first_chosen i 1 (seen_lines s)) i (seen blank)).text =
      ap (λ (k : ℕ). (get_or x.lines k blank).text) back
      ∙ sym (ap (λ (l : Line). l.text) (get_or-map seen x.lines i blank (seen blank) (omega (arith, w.size))))
      ∙ ap (λ (ls : List Line). (get_or ls i (seen blank)).text) w.lines in
      let after : seen_lines y ≡ on_line (suc i) (choosing b) (seen_lines x) = e ∙ ap (λ (k : ℕ). on_line k (choosing b) (seen_lines x)) (add-one i) in
      record {
        lines =
            after
            ∙ ap (λ (ls : List Line). on_line (suc i) (choosing b) ls) w.lines
            ∙ ap (λ (c : Bool). on_line (suc i) (choosing c) (first_chosen i 1 (seen_lines s))) (asked ∙ ap (want (i + 1)) here)
            ∙ first_more i 1 (i + 1) (seen_lines s) (seen blank) (omega arith)
            ∙ ap (λ (k : ℕ). first_chosen k 1 (seen_lines s)) (sym (add-one i));
        counted =
            one ∙ ap (λ (n : ℕ). n + one_if b) w.counted ∙ sym (count_more b i (seen_lines x) long)
            ∙ ap (λ (ls : List Line). chosen_in (take (suc i) ls)) (sym after)
            ∙ ap (λ (k : ℕ). chosen_in (take k (seen_lines y))) (sym (add-one i));
        within = omega (arith, one_le b, one, w.within);
        size = size ∙ w.size;
        capacity = capacity ∙ w.capacity;
      }

  pub walked_lines : (i count : ℕ) (s x : Store) → Walked i count s x → length s.lines ≤ i → seen_lines x ≡ choice want 1 (seen_lines s)
  walked_lines i count s x w h = w.lines ∙ first_all i 1 (seen_lines s) (omega (arith, length-map s.lines seen))

  pub walked_count : (i count : ℕ) (s x : Store) → Walked i count s x → length s.lines ≤ i → count ≡ chosen_in (seen_lines x)
  walked_count i count s x w h =
      w.counted ∙ ap chosen_in (take_all i (seen_lines x) (omega (arith, length-map x.lines seen, w.size)))
