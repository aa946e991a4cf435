-- The lines of a range printed one after another: the next line, and what is left behind it.
use Rattle.std.proofs.Common.{◌≡◌, ℕ, suc, ◌+◌, ◌-◌, ◌<◌, ◌≤◌, List, [], ◌∷◌, ◌++◌, length, get_or, take, drop, ap, ◌∙◌, arith}
use Rattle.std.proofs.lemmas.List.{length-append, length_push, length-map, drop_more, get_or-map}
use Rattle.lines.specs.Line.{blank}
use Rattle.lines.specs.Store.{Store, line_at}
use Rattle.rules.specs.Lines.{Line, seen, seen_lines, from_to}
use Rattle.rules.specs.Printing.{printed}

-- what the lines behind line i print as, down to the last
abbrev pub left : Store → ℕ → ℕ → List ℕ
left s i last = printed (take (last - i) (drop i (seen_lines s)))

pub left_none : (s : Store) (i last : ℕ) → last ≤ i → left s i last ≡ []
left_none s i last h =
    let none : last - i ≡ 0 = omega arith in
    ap (λ m. printed (take m (drop i (seen_lines s)))) none

-- all lines of a range are left at first
pub left_range : (s : Store) (f last : ℕ) → 1 ≤ f → left s (f - 1) last ≡ printed (from_to f last (seen_lines s))
left_range s f last one =
    let size : last - (f - 1) ≡ suc last - f = omega arith in
    ap (λ m. printed (take m (drop (f - 1) (seen_lines s)))) size

module _ (s : Store) (i last : ℕ) (h : i < last) (le : last ≤ length s.lines) where
  -- a line with its break
  abbrev next : List ℕ
  next = (line_at s (i + 1)).text ++ (10 ∷ [])

  pub left_next : left s i last ≡ next ++ left s (i + 1) last
  left_next =
      let inside : i < length (seen_lines s) = rw (length-map s.lines seen) (omega arith) in
      let j : i + 1 - 1 ≡ i = omega arith in
      let here : i < length s.lines = omega arith in
      let it : get_or (seen_lines s) i (seen blank) ≡ seen (line_at s (i + 1)) = rw j (get_or-map seen s.lines i blank (seen blank) here) in
      let size : last - i ≡ suc (last - (i + 1)) = omega arith in
      ap (λ m. printed (take m (drop i (seen_lines s)))) size
      ∙ ap (λ (ls : List Line). printed (take (suc (last - (i + 1))) ls)) (drop_more (seen_lines s) i (seen blank) inside)
      ∙ ap (λ (l : Line). (l.text ++ (10 ∷ [])) ++ left s (i + 1) last) it

  pub left_length : length (left s i last) ≡ length (line_at s (i + 1)).text + 1 + length (left s (i + 1) last)
  left_length =
      ap length left_next
      ∙ length-append next (left s (i + 1) last)
      ∙ ap (λ n. n + length (left s (i + 1) last)) (length_push (line_at s (i + 1)).text 10)
