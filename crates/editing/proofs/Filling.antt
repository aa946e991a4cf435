-- How a keep is filled, line by line, with the lines of a text of which none is chosen.
use Rattle.std.proofs.Common.{◌≡◌, ℕ, ◌+◌, ◌-◌, ◌<◌, ◌≤◌, false, List, [], ◌∷◌, ◌++◌, map, length, get_or, take, sym, ap, ◌∙◌, arith, rules}
use Rattle.std.proofs.lemmas.List.{places, same_lists, map_push, take_more, take_all, get_or-map, length-map}
use Rattle.lines.specs.Line.{Line as Stored, blank}
use Rattle.lines.specs.Store.{Store, inserted, line_at}
use Rattle.rules.specs.Lines.{Line, seen, seen_lines, choosing, unchosen}
use Rattle.editing.specs.Shapes.{with_line}

insert_end : (ls : List Stored) (n : ℕ) (l : Stored) → length ls ≡ n → inserted ls n l ≡ ls ++ l ∷ []
insert_end ls n l e = same_lists _ _ (search (rules, places)) (λ k d h. grind (arith, places))

filled-count : (k : Store) (n : ℕ) (l : Stored) → length k.lines ≡ n → length (with_line k n l).lines ≡ n + 1
filled-count k n l e = search (rules, places)

unchosen_more : (ls : List Line) (i : ℕ) (d : Line) → i < length ls
    → unchosen (take (i + 1) ls) ≡ unchosen (take i ls) ++ choosing false (get_or ls i d) ∷ []
unchosen_more ls i d le = ap unchosen (take_more ls i d le) ∙ map_push (choosing false) (take i ls) (get_or ls i d)

filled_more : (t k : Store) (i : ℕ) (l : Stored) → i < length t.lines → length k.lines ≡ i
    → seen_lines k ≡ unchosen (take i (seen_lines t)) → seen l ≡ choosing false (seen (line_at t (i + 1)))
    → seen_lines (with_line k i l) ≡ unchosen (take (i + 1) (seen_lines t))
filled_more t k i l le e inv same =
    let n = length-map t.lines seen in
    let j : i + 1 - 1 ≡ i = omega arith in
    let here : seen (line_at t (i + 1)) ≡ get_or (seen_lines t) i (seen blank)
    = ap (λ n. seen (get_or t.lines n blank)) j ∙ sym (get_or-map seen t.lines i blank (seen blank) le) in
    ap (map seen) (insert_end k.lines i l e)
    ∙ map_push seen k.lines l
    ∙ ap (λ (ls : List Line). ls ++ seen l ∷ []) inv
    ∙ ap (λ (x : Line). unchosen (take i (seen_lines t)) ++ x ∷ []) (same ∙ ap (choosing false) here)
    ∙ sym (unchosen_more (seen_lines t) i (seen blank) (omega arith))

-- a line with a tag that is no longer chosen
pub unchosen-line : (here : Stored) (read cleared : ℕ) → read ≡ here.tag
    → ((t : List ℕ) → seen (record { text = t; tag = cleared }) ≡ choosing false (seen (record { text = t; tag = read })))
    → seen (record { text = here.text; tag = cleared }) ≡ choosing false (seen here)
unchosen-line here read cleared e h =
    h here.text ∙ ap (λ n. choosing false (seen (record { text = here.text; tag = n }))) e

-- what a turn leaves, where the line that goes in is line i + 1 of the text, no longer chosen
pub filled : (c : ℕ) (t k after : Store) (i : ℕ) (l : Stored) → i < length t.lines → after ≡ with_line k i l
    → seen l ≡ choosing false (seen (line_at t (i + 1)))
    → (seen_lines k ≡ unchosen (take i (seen_lines t))) × (length k.lines ≡ i) × (k.capacity ≡ c)
    → (seen_lines after ≡ unchosen (take (i + 1) (seen_lines t))) × (length after.lines ≡ i + 1) × (after.capacity ≡ c)
filled c t k after i l le e same h = (
  ap seen_lines e ∙ filled_more t k i l le h.1 h.0 same,
  ap (λ (s : Store). length s.lines) e ∙ filled-count k i l h.1,
  ap (λ (s : Store). s.capacity) e ∙ h.2,
)

pub filled_all : (t : Store) (i : ℕ) → length t.lines ≤ i → unchosen (take i (seen_lines t)) ≡ unchosen (seen_lines t)
filled_all t i le = let n = length-map t.lines seen in ap unchosen (take_all i (seen_lines t) (omega arith))
