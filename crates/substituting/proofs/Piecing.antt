-- The pieces that a substitution makes of a text: one line after another, lines in front of the range and behind it stay.
use Rattle.std.proofs.Common.{◌≡◌, ℕ, zero, suc, ◌+◌, ◌<◌, ◌≤◌, Bool, true, false, ◌&&◌, leb, List, [], ◌∷◌, ◌++◌, length, get_or, drop, refl, ap, ◌∙◌, arith}
use Rattle.std.proofs.lemmas.List.{drop_more}
use Rattle.std.proofs.lemmas.Bool.{le-leb, lt-leb, and_from, and_left, and_right}
use Rattle.command.specs.Said.{Substitution}
use Rattle.rules.specs.Addresses.{Range as Span}
use Rattle.rules.specs.Effects.{rewritten}
use Rattle.rules.specs.Lines.{Line}
use Rattle.rules.specs.Patterns.{matches, substituted}
use Rattle.rules.specs.Pieces.{Piece, old, span, news}
use Rattle.rules.proofs.Staying.{Present, present-append, present-news}
use Rattle.rules.proofs.Whenever.{by_test}
use Rattle.substituting.specs.Made.{pieces_for}

-- the test of the rules, by the number of a line and its text
abbrev is_hit : Substitution → Span → ℕ → List ℕ → Bool
is_hit s r n t = leb r.first n && leb n r.final && matches s.sought t

module _ (s : Substitution) (r : Span) where
  in_range : (n : ℕ) (t : List ℕ) → r.first ≤ n → n ≤ r.final → is_hit s r n t ≡ matches s.sought t
  in_range n t low high = ap (λ b. b && matches s.sought t) (and_from (leb r.first n) (leb n r.final) (le-leb r.first n low) (le-leb n r.final high))

  rewritten_more : (n : ℕ) (l : Line) (ls : List Line) → r.first ≤ n → n ≤ r.final
      → rewritten s r n (l ∷ ls) ≡ pieces_for s n l.text ++ rewritten s r (suc n) ls
  rewritten_more n l ls low high = ap whole (in_range n l.text low high) ∙ by (matches s.sought l.text)
    where
      whole : Bool → List Piece
      whole b = elim b [ true ↦ news (substituted s l.text) ++ rewritten s r (suc n) ls | false ↦ old n ∷ rewritten s r (suc n) ls ]

      by : (b : Bool) → whole b ≡ (elim b as (λ _. List Piece) [ true ↦ news (substituted s l.text) | false ↦ old n ∷ [] ]) ++ rewritten s r (suc n) ls
      by true = refl
      by false = refl

  miss_front : (n : ℕ) (t : List ℕ) → n < r.first → is_hit s r n t ≡ false
  miss_front n t h =
      and_left (leb r.first n && leb n r.final) (matches s.sought t)
      (and_left (leb r.first n) (leb n r.final) (lt-leb r.first n h))

  miss_past : (n : ℕ) (t : List ℕ) → r.final < n → is_hit s r n t ≡ false
  miss_past n t h =
      and_left (leb r.first n && leb n r.final) (matches s.sought t)
      (and_right (leb r.first n) (leb n r.final) (lt-leb n r.final h))

  stays_now : (n : ℕ) (l : Line) (ls : List Line) → is_hit s r n l.text ≡ false → rewritten s r n (l ∷ ls) ≡ old n ∷ rewritten s r (suc n) ls
  stays_now n l ls e =
      ap (λ b. elim b as (λ _. List Piece) [ true ↦ news (substituted s l.text) ++ rewritten s r (suc n) ls | false ↦ old n ∷ rewritten s r (suc n) ls ]) e

  pub rewritten-past : (n : ℕ) (ls : List Line) → r.final < n → rewritten s r n ls ≡ span n (length ls)
  rewritten-past n [] h = refl
  rewritten-past n (l ∷ ls) h =
      stays_now n l ls (miss_past n l.text h) ∙ ap (λ ps. old n ∷ ps) (rewritten-past (suc n) ls (omega arith))

  pub rewritten_front : (m n : ℕ) (ls : List Line) → n + m ≤ r.first → m ≤ length ls
      → rewritten s r n ls ≡ span n m ++ rewritten s r (n + m) (drop m ls)
  rewritten_front zero n ls h k = let e : n ≡ n + 0 = omega arith in ap (λ i. rewritten s r i ls) e
  rewritten_front (suc m) n [] h k = absurd (omega arith)
  rewritten_front (suc m) n (l ∷ ls) h k =
      let e : suc n + m ≡ n + suc m = omega arith in
      stays_now n l ls (miss_front n l.text (omega arith))
      ∙ ap (λ ps. old n ∷ ps) (rewritten_front m (suc n) ls (omega arith) (omega arith))
      ∙ ap (λ i. old n ∷ (span (suc n) m ++ rewritten s r i (drop m ls))) e

  -- the line behind i lines
  pub rewritten_next : (i : ℕ) (ls : List Line) (d : Line) → i < length ls → r.first ≤ i + 1 → i + 1 ≤ r.final
      → rewritten s r (i + 1) (drop i ls) ≡ pieces_for s (i + 1) (get_or ls i d).text ++ rewritten s r (i + 1 + 1) (drop (i + 1) ls)
  rewritten_next i ls d h low high =
      let e : suc (i + 1) ≡ i + 1 + 1 = omega arith in
      ap (λ xs. rewritten s r (i + 1) xs) (drop_more ls i d h)
      ∙ rewritten_more (i + 1) (get_or ls i d) (drop (i + 1) ls) low high
      ∙ ap (λ n. pieces_for s (i + 1) (get_or ls i d).text ++ rewritten s r n (drop (i + 1) ls)) e

  -- each line that stays is there
  pub rewritten-present : (m n : ℕ) (ls : List Line) → 1 ≤ n → n + length ls ≤ suc m → Present m (rewritten s r n ls)
  rewritten-present m n [] a b = tt
  rewritten-present m n (l ∷ ls) a b =
      let rest = rewritten-present m (suc n) ls (omega arith) (omega arith) in
      by_test (Present m) (is_hit s r n l.text) _ _
      (λ _. present-append m (news (substituted s l.text)) _ (present-news m (substituted s l.text)) rest)
      (λ _. (a, omega arith, rest))
