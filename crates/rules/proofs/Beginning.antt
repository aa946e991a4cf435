-- Whose turn of a global is next, and how it begins, over lines known by their serials.
use Rattle.std.proofs.Common.{◌≡◌, ℕ, suc, ◌+◌, ◌≤◌, true, false, not, ◌&&◌, eqb, List, [], ◌∷◌, map, get_or, take, Some, None, Option, sym, refl, ap, ◌∙◌, subst, arith}
use Rattle.std.proofs.lemmas.List.{take-map}
use Rattle.rules.specs.Dealing.{along}
use Rattle.rules.specs.Globals.{one_if, sum_of, chosen_in, Run, turn, begun, next_turn}
use Rattle.rules.specs.Lines.{Line, choosing, picked, on_line, first_where}
use Rattle.rules.specs.Turns.{Known, standing, first_waiting, Numbered}
use Rattle.rules.proofs.Following.{Face, known_face, line_face, Beside, serials_in, Follows, turn_follows}
use Rattle.rules.proofs.Mapped.{map-picked, map_on-line, first_where_map, on-line-alone}
use Rattle.rules.proofs.Sums.{one-and_le, one_split, sum_le, sum_same, sum-add, sum-map}
use Rattle.rules.proofs.Whenever.{by_test}

-- the lines that wait; those with serial k that wait, and those with it that do not

abbrev pub waiting_in : List Known → ℕ
waiting_in xs = sum_of (λ x. one_if x.waits) xs

abbrev pub waiting : ℕ → List Known → ℕ
waiting k xs = sum_of (λ x. one_if (eqb k x.serial && x.waits)) xs

abbrev pub idle : ℕ → List Known → ℕ
idle k xs = sum_of (λ x. one_if (eqb k x.serial && not x.waits)) xs

pub waiting_le : (k : ℕ) (xs : List Known) → waiting k xs ≤ waiting_in xs
waiting_le k xs =
    sum_le (λ x. one_if (eqb k x.serial && x.waits)) (λ x. one_if x.waits) (λ x. one-and_le (eqb k x.serial) x.waits) xs

pub standing-split : (k : ℕ) (xs : List Known) → standing k xs ≡ waiting k xs + idle k xs
standing-split k xs =
    sum_same (λ x. one_if (eqb k x.serial)) (λ x. one_if (eqb k x.serial && x.waits) + one_if (eqb k x.serial && not x.waits))
    (λ x. one_split (eqb k x.serial) x.waits) xs
    ∙ sum-add (λ x. one_if (eqb k x.serial && x.waits)) (λ x. one_if (eqb k x.serial && not x.waits)) xs

-- whose turn it is, and what its beginning does

abbrev pub resting : Known → Known
resting x = record { serial = x.serial; text = x.text; waits = false }

-- line i + 1 is the first that waits: its turn begins
pub record Begins (xs : List Known) (i : ℕ) : Type 0 where
  pub who : Known
  pub waits : who.waits ≡ true
  pub first : first_waiting xs ≡ Some who.serial
  pub front : waiting_in (take i xs) ≡ 0
  pub here : picked xs (suc i) ≡ who ∷ []
  pub serial : get_or (map (λ x. x.serial) xs) i 0 ≡ who.serial
  pub weights : (f : Known → ℕ) → sum_of f (on_line (suc i) resting xs) + f who ≡ sum_of f xs + f (resting who)

-- of the lines behind m others
abbrev pub Next : ℕ → List Known → Option ℕ → Type 0
Next m xs None = waiting_in xs ≡ 0
Next m xs (Some n) = (i : ℕ) × (n ≡ suc (m + i)) × Begins xs i

next_behind : (m : ℕ) (x : Known) (xs : List Known) → x.waits ≡ false → (o : Option ℕ) → Next (suc m) xs o → Next m (x ∷ xs) o
next_behind m x xs e None h = rw e (omega (arith, h))
next_behind m x xs e (Some n) h = (
  suc h.0,
  omega (arith, h.1),
  record {
    who = h.2.who;
    waits = h.2.waits;
    first = rw e h.2.first;
    front = rw e (omega (arith, h.2.front));
    here = h.2.here;
    serial = h.2.serial;
    weights = λ f. omega (arith, h.2.weights f);
  },
)

next_turn_lem : (m : ℕ) (xs : List Known) → Next m xs (first_where (λ x. x.waits) (suc m) xs)
next_turn_lem m [] = refl
next_turn_lem m (x ∷ xs) = by_test (Next m (x ∷ xs)) x.waits _ _
    (λ e. (0, omega arith, record { who = x; waits = e; first = rw e; front = refl; here = refl; serial = refl; weights = λ f. omega arith }))
    (λ e. next_behind m x xs e (first_where (λ x. x.waits) (suc (suc m)) xs) (next_turn_lem (suc m) xs))

-- of the lines beside

pub next_beside : (xs : List Known) (ls : List Line) → Beside xs ls → (o : Option ℕ) → next_turn ls ≡ o → Next 0 xs o
next_beside xs ls g o e = subst (Next 0 xs) (same ∙ e) (next_turn_lem 0 xs)
  where
    same : first_where (λ x. x.waits) 1 xs ≡ next_turn ls
    same =
        sym (first_where_map known_face (λ f. f.1) 1 xs)
        ∙ ap (λ (fs : List Face). first_where (λ f. f.1) 1 fs) g
        ∙ first_where_map line_face (λ f. f.1) 1 ls

chosen_beside : (xs : List Known) (ls : List Line) → Beside xs ls → chosen_in ls ≡ waiting_in xs
chosen_beside xs ls g =
    sym (sum-map (λ (f : Face). one_if f.1) line_face ls)
    ∙ ap (sum_of (λ (f : Face). one_if f.1)) (sym g)
    ∙ sum-map (λ (f : Face). one_if f.1) known_face xs

module _ (xs : List Known) (ls : List Line) (g : Beside xs ls) (i : ℕ) (b : Begins xs i) where
  pub front_beside : chosen_in (take i ls) ≡ 0
  front_beside = chosen_beside (take i xs) (take i ls) (sym (take-map known_face i xs) ∙ ap (take i) g ∙ take-map line_face i ls) ∙ b.front

  pub here_beside : chosen_in (picked ls (suc i)) ≡ 1
  here_beside =
      chosen_beside (picked xs (suc i)) (picked ls (suc i))
      (map-picked known_face (suc i) xs ∙ ap (λ (fs : List Face). picked fs (suc i)) g ∙ sym (map-picked line_face (suc i) ls))
      ∙ ap waiting_in b.here
      ∙ ap (λ c. one_if c + 0) b.waits

begun_beside : (n : ℕ) (xs : List Known) (ls : List Line) → Beside xs ls → Beside (on_line n resting xs) (on_line n (choosing false) ls)
begun_beside n xs ls g =
    map_on-line known_face resting (λ f. (f.0, false)) (λ _. refl) n xs
    ∙ ap (λ (fs : List Face). on_line n (λ f. (f.0, false)) fs) g
    ∙ sym (map_on-line line_face (choosing false) (λ f. (f.0, false)) (λ _. refl) n ls)

begun-numbered : (free : ℕ) (xs : List Known) (i : ℕ) → Begins xs i → Numbered free xs → Numbered free (on_line (suc i) resting xs)
begun-numbered free xs i b u = ((λ k. omega (arith, same k, u.0 k)), λ k h. omega (arith, same k, u.1 k h))
  where
    same : (k : ℕ) → standing k (on_line (suc i) resting xs) ≡ standing k xs
    same k = omega (arith, b.weights (λ x. one_if (eqb k x.serial)))

pub begun_follows : (room : ℕ) (cs : List (List ℕ)) (s : Run) (free : ℕ) (xs : List Known) (i : ℕ)
    → Begins xs i → Numbered free xs → Beside xs s.world.text.lines
    → Follows free (on_line (suc i) resting xs) (along room cs (begun s (suc i)) (serials_in free xs)) (turn room cs (begun s (suc i))).world.text.lines
begun_follows room cs s free xs i b numbered g =
    subst (λ ks. Follows free (on_line (suc i) resting xs) (along room cs (begun s (suc i)) (record { standing = ks; free = free }))
    (turn room cs (begun s (suc i))).world.text.lines)
    (on-line-alone (λ x. x.serial) resting (λ _. refl) (suc i) xs)
    (turn_follows room cs (begun s (suc i)) free (on_line (suc i) resting xs) (begun-numbered free xs i b numbered)
    (begun_beside (suc i) xs s.world.text.lines g))
