-- Every line of a store stays a line where one is put in, removed or has its tag set.
use Rattle.std.proofs.Common.{◌≡◌, ℕ, ◌+◌, ◌-◌, ◌^◌, ◌<◌, ◌≤◌, true, not, leb, List, ◌∷◌, ◌++◌, length, get_or, take, drop, set, Ok, sym, ap, ◌∙◌, subst, ⊎_elim, arith}
use Rattle.std.proofs.lemmas.List.{places, get_or-set_same, get_or-set_other}
use Rattle.std.proofs.lemmas.Bool.{cases_eq, cases_lt, cases_order, and_parts, leb-true, not-true, ltb-true}
use Rattle.lines.specs.Line.{Line, LineFits, holds_break, fitting, defined, blank}
use Rattle.std.proofs.lemmas.Bool.Decides.{nat_tests}
use Rattle.lines.specs.Store.{put_check}

-- every line of a list, and blank lines behind it
abbrev pub Each : List Line → Type 0
Each ls = (n : ℕ) → LineFits (get_or ls (n - 1) blank)

pub each_at : (ls : List Line) → Each ls → (k : ℕ) → LineFits (get_or ls k blank)
each_at ls h k = subst (λ (j : ℕ). LineFits (get_or ls j blank)) (omega arith) (h (k + 1))

pub each-inserted : (ls : List Line) (n : ℕ) (l : Line) → n ≤ length ls → LineFits l → Each ls → Each (take n ls ++ l ∷ drop n ls)
each-inserted ls n l le fits h m =
    let k = m - 1 in
    ⊎_elim
    (λ (e : k ≡ n). let q : get_or (take n ls ++ l ∷ drop n ls) k blank ≡ l = grind (arith, places) in subst LineFits (sym q) fits)
    (⊎_elim
    (λ (e : k < n). let q : get_or (take n ls ++ l ∷ drop n ls) k blank ≡ get_or ls k blank = grind (arith, places) in subst LineFits (sym q) (each_at ls h k))
    (λ (e : n < k). let q : get_or (take n ls ++ l ∷ drop n ls) k blank ≡ get_or ls (k - 1) blank = grind (arith, places) in subst LineFits (sym q) (each_at ls h (k - 1))))
    (cases_order k n)

pub each_removed : (ls : List Line) (n : ℕ) → 1 ≤ n → n ≤ length ls → Each ls → Each (take (n - 1) ls ++ drop n ls)
each_removed ls n one le h m =
    let k = m - 1 in
    ⊎_elim
    (λ (e : k < n - 1). let q : get_or (take (n - 1) ls ++ drop n ls) k blank ≡ get_or ls k blank = grind (arith, places) in subst LineFits (sym q) (each_at ls h k))
    (λ (e : n - 1 ≤ k). let q : get_or (take (n - 1) ls ++ drop n ls) k blank ≡ get_or ls (k + 1) blank = grind (arith, places) in subst LineFits (sym q) (each_at ls h (k + 1)))
    (cases_lt k (n - 1))

pub each_set : (ls : List Line) (i : ℕ) (l : Line) → i < length ls → LineFits l → Each ls → Each (set ls i l)
each_set ls i l lt fits h m =
    let k = m - 1 in
    ⊎_elim
    (λ (e : k ≡ i). let q : get_or (set ls i l) k blank ≡ l = ap (λ (j : ℕ). get_or (set ls i l) j blank) e ∙ get_or-set_same ls i l blank lt in subst LineFits (sym q) fits)
    (λ (e : k ≡ i → ⊥). subst LineFits (sym (get_or-set_other ls i k l blank e)) (each_at ls h k))
    (cases_eq k i)

pub each_same : (ls ms : List Line) → ls ≡ ms → Each ms → Each ls
each_same ls ms e h = subst Each (sym e) h

-- a text that was tested, with a tag that was tested, is a line
pub tested : (t : List ℕ) (g : ℕ) → fitting t ≡ true → defined g ≡ true → LineFits (record { text = t; tag = g })
tested t g f d =
    let p = and_parts (leb (length t) 255) (not (holds_break t)) f in
    (leb-true (length t) 255 p.0, not-true (holds_break t) p.1, ltb-true g (2 ^ 27) d)

-- what is known where a put is accepted
pub record Accepted (count capacity n : ℕ) (t : List ℕ) (g : ℕ) : Type 0 where
  pub within : n ≤ count
  pub free : count < capacity
  pub fits : LineFits (record { text = t; tag = g })

pub accepted : (count capacity n : ℕ) (t : List ℕ) (g : ℕ) (x : Unit {0}) → Ok x ≡ put_check count capacity n t g → Accepted count capacity n t g
accepted count capacity n t g x e =
    let within : n ≤ count = grind (arith, nat_tests) in
    let free : count < capacity = grind (arith, nat_tests) in
    let f : fitting t ≡ true = grind (arith, nat_tests) in
    let d : defined g ≡ true = grind (arith, nat_tests) in
    record { within = within; free = free; fits = tested t g f d }
