-- How the shapes of a store go on from one line to the next, as the loops over lines need it.
use Rattle.std.proofs.Common.{◌≡◌, ℕ, ◌+◌, ◌-◌, ◌<◌, ◌≤◌, List, ◌++◌, length, get_or, take, drop, ap, arith, rules}
use Rattle.std.proofs.lemmas.List.{places, same_lists, take-append-drop}
use Rattle.lines.specs.Line.{Line, blank}
use Rattle.lines.specs.Store.{Store, with_lines, inserted, line_at}
use Rattle.editing.specs.Shapes.{without, with_line, swapped, with_swapped}

-- lines taken away

pub without_none : (s : Store) (f : ℕ) → without s f (f - 1) ≡ s
without_none s f = ap (with_lines s) (take-append-drop (f - 1) s.lines)

cut : (ls : List Line) (f i : ℕ) → 1 ≤ f → f ≤ i + 1 → i < length ls
    → take (f - 1) (take (f - 1) ls ++ drop i ls) ++ drop f (take (f - 1) ls ++ drop i ls) ≡ take (f - 1) ls ++ drop (i + 1) ls
cut ls f i one fi il = same_lists _ _ (search (rules, places)) (λ k d h. grind (arith, places))

pub without_more : (s : Store) (f i : ℕ) → 1 ≤ f → f ≤ i + 1 → i < length s.lines → without (without s f i) f f ≡ without s f (i + 1)
without_more s f i one fi il = ap (with_lines s) (cut s.lines f i one fi il)

pub count_cut : (s : Store) (a b : ℕ) → a ≤ b + 1 → b ≤ length s.lines → length (without s a b).lines + (b - (a - 1)) ≡ length s.lines
count_cut s a b le me = search (rules, places)

pub count-without : (s : Store) (f i : ℕ) → 1 ≤ f → f ≤ i + 1 → i < length s.lines → f ≤ length (without s f i).lines
count-without s f i one fi il = search (rules, places)

-- lines moved

pub swapped_none : (s : Store) (a c : ℕ) → a ≤ c → with_swapped s a a c ≡ s
swapped_none s a c le = ap (with_lines s) (same_lists _ _ (search (rules, places)) (λ k d h. grind (arith, places)))

pub unswapped : (s : Store) (a b : ℕ) → a ≤ b → with_swapped s a b b ≡ s
unswapped s a b le = ap (with_lines s) (same_lists _ _ (search (rules, places)) (λ k d h. grind (arith, places)))

pub count-swapped : (s : Store) (a b c : ℕ) → a ≤ b → b ≤ c → c ≤ length s.lines → length (with_swapped s a b c).lines ≡ length s.lines
count-swapped s a b c ab bc cl = search (rules, places)

raised : (ls : List Line) (t a i : ℕ) → t ≤ a → a ≤ i → i < length ls
    → inserted (take i (swapped t a i ls) ++ drop (i + 1) (swapped t a i ls)) (t + (i - a)) (get_or ls i blank) ≡ swapped t a (i + 1) ls
raised ls t a i ta ai il = same_lists _ _ (search (rules, places)) (λ k d h. grind (arith, places))

line_raised : (ls : List Line) (t a i : ℕ) → t ≤ a → a ≤ i → i < length ls → get_or (swapped t a i ls) i blank ≡ get_or ls i blank
line_raised ls t a i ta ai il = grind (arith, places)

-- the line behind line i goes up to where those before it went
pub raised_more : (s : Store) (t a i : ℕ) → t ≤ a → a ≤ i → i < length s.lines
    → with_line (without (with_swapped s t a i) (i + 1) (i + 1)) (t + (i - a)) (line_at (with_swapped s t a i) (i + 1)) ≡ with_swapped s t a (i + 1)
raised_more s t a i ta ai il =
    let j : i + 1 - 1 ≡ i = omega arith in
    rw (j, line_raised s.lines t a i ta ai il) (ap (with_lines s) (raised s.lines t a i ta ai il))

lowered : (ls : List Line) (f i t : ℕ) → 1 ≤ f → f ≤ i + 1 → i < t → t ≤ length ls
    → inserted (take (f - 1) (swapped (f - 1) i t ls) ++ drop f (swapped (f - 1) i t ls)) (t - 1) (get_or ls i blank) ≡ swapped (f - 1) (i + 1) t ls
lowered ls f i t one fi it tl = same_lists _ _ (search (rules, places)) (λ k d h. grind (arith, places))

line_lowered : (ls : List Line) (f i t : ℕ) → 1 ≤ f → f ≤ i + 1 → i < t → t ≤ length ls → get_or (swapped (f - 1) i t ls) (f - 1) blank ≡ get_or ls i blank
line_lowered ls f i t one fi it tl = grind (arith, places)

-- line f goes down to stand in front of the line behind line t
pub lowered_more : (s : Store) (f i t : ℕ) → 1 ≤ f → f ≤ i + 1 → i < t → t ≤ length s.lines
    → with_line (without (with_swapped s (f - 1) i t) f f) (t - 1) (line_at (with_swapped s (f - 1) i t) f) ≡ with_swapped s (f - 1) (i + 1) t
lowered_more s f i t one fi it tl =
    rw (line_lowered s.lines f i t one fi it tl) (ap (with_lines s) (lowered s.lines f i t one fi it tl))

-- all lines taken away, from the last

last_taken : (ls : List Line) (i : ℕ) → 1 ≤ i → i ≤ length ls
    → take (i - 1 + 1 - 1) (take i ls) ++ drop (i - 1 + 1) (take i ls) ≡ take (i - 1) ls
last_taken ls i one il = same_lists _ _ (search (rules, places)) (λ k d h. grind (arith, places))

pub emptied_more : (s : Store) (i : ℕ) → 1 ≤ i → i ≤ length s.lines
    → without (with_lines s (take i s.lines)) (i - 1 + 1) (i - 1 + 1) ≡ with_lines s (take (i - 1) s.lines)
emptied_more s i one il = ap (with_lines s) (last_taken s.lines i one il)
