-- How two stores go on, line by line, while their lines are exchanged.
use Rattle.std.proofs.Common.{◌≡◌, ℕ, ◌+◌, ◌-◌, ◌<◌, ◌≤◌, List, ◌++◌, length, get_or, take, drop, set, sym, ap, ◌∙◌, arith, rules}
use Rattle.std.specs.List.{between}
use Rattle.std.proofs.lemmas.List.{places, same_lists, take-append-drop, get_or-set_same}
use Rattle.std.proofs.lemmas.Bool.{cases_eq}
use Rattle.lines.specs.Line.{Line, blank}
use Rattle.lines.specs.Store.{Store, with_lines, inserted, line_at}
use Rattle.editing.specs.Shapes.{without, with_line, with_set, fronted}

-- one line

put_back : (ls : List Line) (n : ℕ) (l : Line) → 1 ≤ n → n ≤ length ls
    → inserted (take (n - 1) ls ++ drop n ls) (n - 1) l ≡ set ls (n - 1) l
put_back ls n l one le =
    same_lists _ _ (search (rules, places)) (λ k d h. grind (arith, places, get_or-set_same, cases_eq k (n - 1)))

pub set_line : (s : Store) (n : ℕ) (l : Line) → 1 ≤ n → n ≤ length s.lines → with_line (without s n n) (n - 1) l ≡ with_set s n l
set_line s n l one le = ap (with_lines s) (put_back s.lines n l one le)

-- the lines that both have

front_more : (ls ms : List Line) (i : ℕ) → i < length ls → i < length ms
    → set (take i ms ++ drop i ls) i (get_or ms i blank) ≡ take (i + 1) ms ++ drop (i + 1) ls
front_more ls ms i le me =
    same_lists _ _ (search (rules, places)) (λ k d h. grind (arith, places, get_or-set_same, cases_eq k i))

pub count-fronted : (s : Store) (n : ℕ) (o : Store) → n ≤ length s.lines → n ≤ length o.lines
    → length (fronted s n o).lines ≡ length s.lines
count-fronted s n o le me = search (rules, places)

pub fronted_more : (s o : Store) (i : ℕ) → i < length s.lines → i < length o.lines
    → with_set (fronted s i o) (i + 1) (line_at (fronted o i s) (i + 1)) ≡ fronted s (i + 1) o
fronted_more s o i le me =
    let at : get_or (take i s.lines ++ drop i o.lines) i blank ≡ get_or o.lines i blank = grind (arith, places) in
    let j : i + 1 - 1 ≡ i = omega arith in
    rw (j, at) (ap (with_lines s) (front_more s.lines o.lines i le me))

-- the lines that one has beyond the other

line_behind : (s : Store) (f i : ℕ) → f ≤ i → i < length s.lines → line_at (without s (f + 1) i) (f + 1) ≡ get_or s.lines i blank
line_behind s f i fi il = grind (arith, places)

moved : (ks ts : List Line) (at i m : ℕ) (l : Line) → at ≤ i → i < length ts → m ≡ length ks + (i - at) → l ≡ get_or ts i blank
    → inserted (ks ++ between at i ts) m l ≡ ks ++ between at (i + 1) ts
moved ks ts at i m l le me em el = same_lists _ _ (search (rules, places)) (λ k d h. grind (arith, places))

pub moved_more : (t k : Store) (at i m : ℕ) → at ≤ i → i < length t.lines → m ≡ length k.lines + (i - at)
    → with_line (with_lines k (k.lines ++ between at i t.lines)) m (line_at (without t (at + 1) i) (at + 1))
    ≡ with_lines k (k.lines ++ between at (i + 1) t.lines)
moved_more t k at i m le me em = ap (with_lines k) (moved k.lines t.lines at i m _ le me em (line_behind t at i le me))

pub moved_none : (k : Store) (at : ℕ) (ts : List Line) → with_lines k (k.lines ++ between at at ts) ≡ k
moved_none k at ts = ap (with_lines k) (same_lists _ _ (search (rules, places)) (λ j d h. grind (arith, places)))

pub moved-count : (t k : Store) (at i : ℕ) → at ≤ i → i ≤ length t.lines
    → length (with_lines k (k.lines ++ between at i t.lines)).lines ≡ length k.lines + (i - at)
moved-count t k at i le me = search (rules, places)

pub moved_all : (k : Store) (at n : ℕ) (ts : List Line) → n ≡ length ts → at ≤ n
    → with_lines k (k.lines ++ between at n ts) ≡ with_lines k (k.lines ++ drop at ts)
moved_all k at n ts e le = ap (with_lines k) (same_lists _ _ (search (rules, places)) (λ j d h. grind (arith, places)))

pub without_start : (s : Store) (a : ℕ) → s ≡ without s (a + 1) a
without_start s a = let j : a + 1 - 1 ≡ a = omega arith in rw j (sym (ap (with_lines s) (take-append-drop a s.lines)))

pub cut_end : (s : Store) (at n : ℕ) → n ≡ length s.lines → at ≤ n → without s (at + 1) n ≡ with_lines s (take at s.lines)
cut_end s at n e le = ap (with_lines s) (same_lists _ _ (search (rules, places)) (λ j d h. grind (arith, places)))

-- both together

abbrev store_of : List Line → ℕ → Store
store_of ls c = record { lines = ls; capacity = c }

pub same_store : (s o : Store) → s.lines ≡ o.lines → s.capacity ≡ o.capacity → s ≡ o
same_store s o p q = ap (λ (ls : List Line). with_lines s ls) p ∙ ap (λ (c : ℕ). store_of o.lines c) q

pub tail_from : (t k : Store) (n : ℕ) → t.capacity ≡ k.capacity → n ≡ length k.lines → n ≤ length t.lines
    → with_lines (fronted t n k) (take n (fronted t n k).lines) ≡ k
tail_from t k n p e le = same_store _ _ (same_lists _ _ (search (rules, places)) (λ j d h. grind (arith, places))) p

pub tail_to : (t k : Store) (n : ℕ) → t.capacity ≡ k.capacity → n ≡ length k.lines → n ≤ length t.lines
    → with_lines (fronted k n t) ((fronted k n t).lines ++ drop n (fronted t n k).lines) ≡ t
tail_to t k n p e le = same_store _ _ (same_lists _ _ (search (rules, places)) (λ j d h. grind (arith, places))) (sym p)
