-- Pages in order: few lines chosen, a mark on at most one line, the current line within; and what leaves them so.
use Rattle.std.proofs.Common.{◌≡◌, ℕ, zero, suc, ◌+◌, ◌<◌, ◌≤◌, Bool, true, false, ◌⊎◌, List, [], ◌∷◌, map, length, get_or, set, replicate, Some, None, Option, sym, refl, ap, subst, inl, inr, le_trans, le_refl, arith}
use Rattle.std.proofs.lemmas.List.{length-map, get_or-set_other}
use Rattle.std.proofs.lemmas.Bool.{cases_eq}
use Rattle.rules.specs.Globals.{one_if, sum_of, chosen_in, choice}
use Rattle.rules.specs.Lines.{Line, Page, page, has_mark, with_mark, choosing, clean, created, on_line, first_where, mark_on}
use Rattle.rules.specs.Pieces.{Piece, placed}
use Rattle.rules.specs.Settled.{Settled}
use Rattle.rules.proofs.Staying.{Present, length-placed}
use Rattle.rules.proofs.Sums.{Single, placed_le}
use Rattle.rules.proofs.Whenever.{by_test}

-- how many lines have mark k
abbrev marked_in : ℕ → List Line → ℕ
marked_in k ls = sum_of (λ l. one_if (has_mark k l)) ls

-- at most c lines are chosen; with 0 the page is settled
pub record Tame (c : ℕ) (g : Page) : Type 0 where
  pub few : chosen_in g.lines ≤ c
  pub unique : (k : ℕ) → marked_in k g.lines ≤ 1
  pub within : g.current ≤ length g.lines

pub settled : (g : Page) → Tame 0 g → Settled g
settled g t = record { unchosen = omega (arith, t.few); unique = t.unique; within = t.within }

pub tame_empty : Tame 0 (page [] 0)
tame_empty = record { few = omega arith; unique = λ k. omega arith; within = omega arith }

-- the current line goes elsewhere
pub tame_current : (c : ℕ) (g : Page) (n : ℕ) → Tame c g → n ≤ length g.lines → Tame c (page g.lines n)
tame_current c g n t h = record { few = t.few; unique = t.unique; within = h }

-- what leaves a number of each line alone leaves its sum alone

module _ {L : Type 0} (v : L → ℕ) (f : L → L) where
  sum-map-alone : ((l : L) → v (f l) ≡ v l) → (ls : List L) → sum_of v (map f ls) ≡ sum_of v ls
  sum-map-alone e [] = refl
  sum-map-alone e (l ∷ ls) = omega (arith, e l, sum-map-alone e ls)

  sum-map_none : ((l : L) → v (f l) ≡ 0) → (ls : List L) → sum_of v (map f ls) ≡ 0
  sum-map_none e [] = refl
  sum-map_none e (l ∷ ls) = omega (arith, e l, sum-map_none e ls)

  sum_on-line_le : ((l : L) → v (f l) ≤ v l) → (n : ℕ) (ls : List L) → sum_of v (on_line n f ls) ≤ sum_of v ls
  sum_on-line_le e n [] = omega arith
  sum_on-line_le e zero (l ∷ ls) = omega arith
  sum_on-line_le e (suc zero) (l ∷ ls) = omega (arith, e l)
  sum_on-line_le e (suc (suc n)) (l ∷ ls) = omega (arith, sum_on-line_le e (suc n) ls)

  sum_on-line_more : ((l : L) → v (f l) ≤ 1) → (n : ℕ) (ls : List L) → sum_of v (on_line n f ls) ≤ suc (sum_of v ls)
  sum_on-line_more e n [] = omega arith
  sum_on-line_more e zero (l ∷ ls) = omega arith
  sum_on-line_more e (suc zero) (l ∷ ls) = omega (arith, e l)
  sum_on-line_more e (suc (suc n)) (l ∷ ls) = omega (arith, sum_on-line_more e (suc n) ls)

pub length_on-line : {L : Type 0} (f : L → L) (n : ℕ) (ls : List L) → length (on_line n f ls) ≡ length ls
length_on-line f n [] = refl
length_on-line f zero (l ∷ ls) = refl
length_on-line f (suc zero) (l ∷ ls) = refl
length_on-line f (suc (suc n)) (l ∷ ls) = ap suc (length_on-line f (suc n) ls)

one_le : (b : Bool) → one_if b ≤ 1
one_le true = omega arith
one_le false = omega arith

-- created lines have no mark

none-marked : (n k : ℕ) → get_or (replicate n false) k false ≡ false
none-marked zero k = refl
none-marked (suc n) zero = refl
none-marked (suc n) (suc k) = none-marked n k

created_unmarked : (k : ℕ) (t : List ℕ) → one_if (has_mark k (created t)) ≡ 0
created_unmarked k t = ap one_if (none-marked 26 k)

pub tame_created : (ts : List (List ℕ)) → Tame 0 (page (map created ts) (length ts))
tame_created ts = record {
  few = by_none (λ l. one_if l.chosen) (λ t. refl) ts;
  unique = λ k. le_trans (by_none (λ l. one_if (has_mark k l)) (created_unmarked k) ts) (omega arith);
  within = omega (arith, length-map ts created);
}
  where
    by_none : (v : Line → ℕ) → ((t : List ℕ) → v (created t) ≡ 0) → (ts : List (List ℕ)) → sum_of v (map created ts) ≤ 0
    by_none v e [] = omega arith
    by_none v e (t ∷ ts) = omega (arith, e t, by_none v e ts)

-- a text made of pieces
pub tame_placed : (c : ℕ) (g : Page) (ps : List Piece) (n : ℕ) → Tame c g → Single ps → Present (length g.lines) ps → n ≤ length ps
    → Tame c (page (placed created g.lines ps) n)
tame_placed c g ps n t s p h = record {
  few = le_trans (placed_le created (λ l. one_if l.chosen) (λ _. refl) g.lines ps s) t.few;
  unique = λ k. le_trans (placed_le created (λ l. one_if (has_mark k l)) (created_unmarked k) g.lines ps s) (t.unique k);
  within = omega (arith, length-placed created g.lines ps p);
}

-- a mark goes to one line, off all others

unmarked : (k : ℕ) (ms : List Bool) → get_or (set ms k false) k false ≡ false
unmarked k [] = refl
unmarked zero (m ∷ ms) = refl
unmarked (suc k) (m ∷ ms) = unmarked k ms

mark_unique : (n k : ℕ) (ls : List Line) (j : ℕ) → marked_in j ls ≤ 1 → marked_in j (mark_on n k ls) ≤ 1
mark_unique n k ls j h = by (cases_eq j k)
  where
    same : (b : Bool) → (j ≡ k → ⊥) → (l : Line) → one_if (has_mark j (with_mark k b l)) ≡ one_if (has_mark j l)
    same b e l = ap one_if (get_or-set_other l.marks k j b false e)

    off : j ≡ k → (l : Line) → one_if (has_mark j (with_mark k false l)) ≡ 0
    off e l = ap one_if (subst (λ j. get_or (set l.marks k false) j false ≡ false) (sym e) (unmarked k l.marks))

    by : (j ≡ k) ⊎ (j ≡ k → ⊥) → marked_in j (mark_on n k ls) ≤ 1
    by (inl e) = omega (
      arith,
      sum_on-line_more (λ l. one_if (has_mark j l)) (with_mark k true) (λ l. one_le (has_mark j (with_mark k true l))) n (map (with_mark k false) ls),
      sum-map_none (λ l. one_if (has_mark j l)) (with_mark k false) (off e) ls,
    )
    by (inr e) = omega (
      arith,
      sum_on-line_le (λ l. one_if (has_mark j l)) (with_mark k true) (λ l. omega (arith, same true e l)) n (map (with_mark k false) ls),
      sum-map-alone (λ l. one_if (has_mark j l)) (with_mark k false) (same false e) ls,
    )

pub tame_marked : (c : ℕ) (g : Page) (n k : ℕ) → Tame c g → Tame c (page (mark_on n k g.lines) g.current)
tame_marked c g n k t = record {
  few = omega (
    arith,
    t.few,
    sum_on-line_le (λ (l : Line). one_if l.chosen) (with_mark k true) (λ l. omega arith) n (map (with_mark k false) g.lines),
    sum-map-alone (λ (l : Line). one_if l.chosen) (with_mark k false) (λ l. refl) g.lines,
  );
  unique = λ j. mark_unique n k g.lines j (t.unique j);
  within = omega (arith, t.within, length_on-line (with_mark k true) n (map (with_mark k false) g.lines), length-map g.lines (with_mark k false));
}

-- choosing lines, and taking the choice back

pub tame_clean : (c : ℕ) (g : Page) → Tame c g → Tame 0 (clean g)
tame_clean c g t = record {
  few = omega (arith, sum-map_none (λ (l : Line). one_if l.chosen) (choosing false) (λ l. refl) g.lines);
  unique = λ k. omega (arith, t.unique k, sum-map-alone (λ l. one_if (has_mark k l)) (choosing false) (λ l. refl) g.lines);
  within = omega (arith, t.within, length-map g.lines (choosing false));
}

module _ (want : ℕ → List ℕ → Bool) where
  sum-choice-alone : (v : Line → ℕ) → ((b : Bool) (l : Line) → v (choosing b l) ≡ v l) → (n : ℕ) (ls : List Line) → sum_of v (choice want n ls) ≡ sum_of v ls
  sum-choice-alone v e n [] = refl
  sum-choice-alone v e n (l ∷ ls) = omega (arith, e (want n l.text) l, sum-choice-alone v e (suc n) ls)

  pub length-choice : (n : ℕ) (ls : List Line) → length (choice want n ls) ≡ length ls
  length-choice n [] = refl
  length-choice n (l ∷ ls) = ap suc (length-choice (suc n) ls)

  pub tame_choice : (c : ℕ) (g : Page) → Tame c g → Tame (chosen_in (choice want 1 g.lines)) (page (choice want 1 g.lines) g.current)
  tame_choice c g t = record {
    few = le_refl (chosen_in (choice want 1 g.lines));
    unique = λ k. omega (arith, t.unique k, sum-choice-alone (λ l. one_if (has_mark k l)) (λ b l. refl) 1 g.lines);
    within = omega (arith, t.within, length-choice 1 g.lines);
  }

-- the line that has its turn becomes current, and is chosen no longer

pub tame_begun : (c : ℕ) (g : Page) (n : ℕ) → Tame c g → n ≤ length g.lines → Tame c (page (on_line n (choosing false) g.lines) n)
tame_begun c g n t h = record {
  few = le_trans (sum_on-line_le (λ (l : Line). one_if l.chosen) (choosing false) (λ l. omega arith) n g.lines) t.few;
  unique = λ k. le_trans (sum_on-line_le (λ l. one_if (has_mark k l)) (choosing false) (λ l. le_refl (one_if (has_mark k l))) n g.lines) (t.unique k);
  within = omega (arith, length_on-line (choosing false) n g.lines);
}

-- the first line with a fact is one of the lines

abbrev Below : ℕ → Option ℕ → Type 0
Below k None = Unit {0}
Below k (Some n) = n < k

module _ {L : Type 0} (test : L → Bool) where
  first_below : (m : ℕ) (ls : List L) → Below (m + length ls) (first_where test m ls)
  first_below m [] = tt
  first_below m (l ∷ ls) =
      let same : suc m + length ls ≡ m + suc (length ls) = omega arith in
      by_test (Below (m + suc (length ls))) (test l) _ _ (λ _. omega arith) (λ _. subst (λ k. Below k (first_where test (suc m) ls)) same (first_below (suc m) ls))

  pub first-within : (m : ℕ) (ls : List L) (n : ℕ) → first_where test m ls ≡ Some n → n < m + length ls
  first-within m ls n e = subst (Below (m + length ls)) e (first_below m ls)
