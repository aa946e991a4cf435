-- A text reckoned line by line: from the range's first line to its last, and what the lines of a store bring along.
use Rattle.std.proofs.Common.{◌≡◌, ℕ, zero, suc, ◌+◌, ◌-◌, ◌<◌, ◌≤◌, min, true, false, not, leb, List, [], ◌∷◌, ◌++◌, map, length, get_or, take, drop, sym, refl, ap, ◌∙◌, subst, arith}
use Rattle.std.proofs.lemmas.List.{length-map, length-drop, get_or-map, get_or-drop, drop-map}
use Rattle.std.proofs.lemmas.Bool.{and_from, le-leb, not_from_false}
use Rattle.lines.specs.Line as stored
use Rattle.lines.specs.Store.{Store, Sound, line_at}
use Rattle.command.specs.declared.said.Substitution.{Substitution as SubstitutionCode}
use Rattle.command.specs.Said.{Substitution}
use Rattle.command.specs.View.{substitution_view}
use Rattle.ranges.specs.declared.range.Range.{Range}
use Rattle.ranges.specs.Spans.{span_of}
use Rattle.rules.specs.Addresses.{Range as Span}
use Rattle.lines.specs.Line.{all_fit}
use Rattle.rules.specs.Doing.{texts_of}
use Rattle.rules.specs.Effects.{rewritten}
use Rattle.rules.specs.Lines.{Line, seen, seen_lines, picked}
use Rattle.rules.specs.Patterns.{matches, substituted}
use Rattle.rules.specs.Pieces.{Piece, old, span, news, last_new}
use Rattle.substituting.specs.declared.reckoning.Reckoned.{Reckoned}
use Rattle.substituting.specs.Made.{pieces_of, after, pieces_for}
use Rattle.substituting.specs.Reckoning.{reckoned_pieces, none_reckoned, Right}
use Rattle.substituting.proofs.Piecing.{rewritten_front, rewritten_next, rewritten-past, rewritten-present}
use Rattle.substituting.proofs.Tallying.{stayed, reckoned_append, reckoned_few, reckoned_span, tally_all, tally_none, tallied-right}

module _ (s : Substitution) (r : Span) where
  pub reckoned_front : (m : ℕ) (ls : List Line) → m + 1 ≤ r.first → m ≤ length ls → m ≤ 4097
      → reckoned_pieces (stayed none_reckoned m) (rewritten s r (m + 1) (drop m ls)) ≡ reckoned_pieces none_reckoned (rewritten s r 1 ls)
  reckoned_front m ls h k few =
      let e : 1 + m ≡ m + 1 = omega arith in
      let q : min (0 + m) 4097 ≡ m = omega arith in
      sym (ap (λ ps. reckoned_pieces none_reckoned ps) (rewritten_front s r m 1 ls (omega arith) k ∙ ap (λ i. span 1 m ++ rewritten s r i (drop m ls)) e)
      ∙ reckoned_append (span 1 m) (rewritten s r (m + 1) (drop m ls)) none_reckoned
      ∙ ap (λ x. reckoned_pieces x (rewritten s r (m + 1) (drop m ls))) (reckoned_span m 1 none_reckoned (omega arith) ∙ ap (λ i. stayed none_reckoned i) q))

  pub reckoned_next : (k : Reckoned) (i : ℕ) (ls : List Line) (d : Line) → i < length ls → r.first ≤ i + 1 → i + 1 ≤ r.final
      → reckoned_pieces (reckoned_pieces k (pieces_for s (i + 1) (get_or ls i d).text)) (rewritten s r (i + 1 + 1) (drop (i + 1) ls))
      ≡ reckoned_pieces k (rewritten s r (i + 1) (drop i ls))
  reckoned_next k i ls d h low high =
      sym (ap (λ ps. reckoned_pieces k ps) (rewritten_next s r i ls d h low high)
      ∙ reckoned_append (pieces_for s (i + 1) (get_or ls i d).text) (rewritten s r (i + 1 + 1) (drop (i + 1) ls)) k)

  pub reckoned_past : (k : Reckoned) (i : ℕ) (ls : List Line) → r.final ≤ i → k.count ≤ 4097
      → reckoned_pieces k (rewritten s r (i + 1) (drop i ls)) ≡ stayed k (min (k.count + (length ls - i)) 4097)
  reckoned_past k i ls h few =
      ap (λ ps. reckoned_pieces k ps) (rewritten-past s r (i + 1) (drop i ls) (omega arith) ∙ ap (λ n. span (i + 1) n) (length-drop i ls))
      ∙ reckoned_span (length ls - i) (i + 1) k few

-- the lines of a store

pub seen_text : (t : Store) (i : ℕ) → i < length t.lines → (get_or (seen_lines t) i (seen stored.blank)).text ≡ (line_at t (i + 1)).text
seen_text t i h =
    let e : i ≡ i + 1 - 1 = omega arith in
    ap (λ (l : Line). l.text) (get_or-map seen t.lines i stored.blank (seen stored.blank) h) ∙ ap (λ n. (get_or t.lines n stored.blank).text) e

pub seen_fit : (t : Store) → Sound t → (n : ℕ) → all_fit (texts_of (picked (seen_lines t) n)) ≡ true
seen_fit t f zero = refl
seen_fit t f (suc j) =
    let e : get_or (drop j t.lines) 0 stored.blank ≡ line_at t (suc j) = get_or-drop j t.lines 0 stored.blank ∙ ap (λ n. get_or t.lines n stored.blank) at in
    ap (λ ls. all_fit (texts_of (take 1 ls))) (drop-map seen j t.lines) ∙ by (drop j t.lines) (subst (λ (l : stored.Line). stored.LineFits l) (sym e) (f.each (suc j)))
  where
    at : j + 0 ≡ suc j - 1
    at = omega arith

    by : (ls : List stored.Line) → stored.LineFits (get_or ls 0 stored.blank) → all_fit (texts_of (take 1 (map seen ls))) ≡ true
    by [] g = refl
    by (l ∷ ls) g =
        and_from (stored.fitting l.text) true
        (and_from (leb (length l.text) 255) (not (stored.holds_break l.text)) (le-leb (length l.text) 255 g.0) (not_from_false (stored.holds_break l.text) g.1))
        refl

-- what is reckoned with i lines done
pub record Partial (s : Substitution) (r : Span) (t : Store) (k : Reckoned) (i : ℕ) : Type 0 where
  pub whole : reckoned_pieces k (rewritten s r (i + 1) (drop i (seen_lines t))) ≡ reckoned_pieces none_reckoned (rewritten s r 1 (seen_lines t))
  pub few : k.count ≤ 4097

pub partial_start : (s : Substitution) (range : Range) (t : Store) → Sound t → range.count ≡ length t.lines
    → Partial s (span_of range) t (stayed none_reckoned (range.first - 1)) (range.first - 1)
partial_start s range t f count =
    let m : length (seen_lines t) ≡ length t.lines = length-map t.lines seen in
    let small : range.count ≤ 4096 = omega (arith, f.room, f.bounded) in
    record {
      whole = reckoned_front s (span_of range) (range.first - 1) (seen_lines t)
          (omega (arith, range.some)) (omega (arith, range.order, range.within)) (omega (arith, range.order, range.within));
      few = omega (arith, range.order, range.within);
    }

-- line n of the range done
pub partial_turn : (s : Substitution) (range : Range) (t : Store) (k next : Reckoned) (n : ℕ) → Partial s (span_of range) t k (n - 1)
    → range.count ≡ length t.lines → range.first ≤ n → n ≤ range.last → next ≡ reckoned_pieces k (pieces_for s n (line_at t n).text)
    → Partial s (span_of range) t next (n + 1 - 1)
partial_turn s range t k next n p count low high is =
    let r : Span = span_of range in
    let i : ℕ = n - 1 in
    let ls : List Line = seen_lines t in
    let d : Line = seen stored.blank in
    let m : length ls ≡ length t.lines = length-map t.lines seen in
    let e : n ≡ i + 1 = omega (arith, range.some) in
    let behind : n + 1 - 1 ≡ i + 1 = omega (arith, range.some) in
    let here : i < length t.lines = omega (arith, range.some, range.within) in
    let next-is : next ≡ reckoned_pieces k (pieces_for s (i + 1) (get_or ls i d).text) =
    is ∙ ap (λ j. reckoned_pieces k (pieces_for s j (line_at t j).text)) e
    ∙ ap (λ (b : List ℕ). reckoned_pieces k (pieces_for s (i + 1) b)) (sym (seen_text t i here)) in
    record {
      whole = ap (λ j. reckoned_pieces next (rewritten s r (j + 1) (drop j ls))) behind
          ∙ ap (λ (x : Reckoned). reckoned_pieces x (rewritten s r (i + 1 + 1) (drop (i + 1) ls))) next-is
          ∙ reckoned_next s r k i ls d (omega arith) (omega arith) (omega arith)
          ∙ p.whole;
      few = subst (λ (x : Reckoned). x.count ≤ 4097) (sym is) (reckoned_few (pieces_for s n (line_at t n).text) k p.few);
    }

-- the lines behind the range stay
pub partial_over : (s : SubstitutionCode) (range : Range) (t : Store) (k : Reckoned) (i total : ℕ) → Sound t → Partial (substitution_view s) (span_of range) t k i
    → range.count ≡ length t.lines → i ≡ range.last → total ≡ min (k.count + (range.count - range.last)) 4097
    → Right (after s range t) (last_new 0 0 (pieces_of s range t)) (stayed k total)
partial_over s range t k i total f p count past e =
    let v : Substitution = substitution_view s in
    let m : length (seen_lines t) ≡ length t.lines = length-map t.lines seen in
    let n : total ≡ min (k.count + (length (seen_lines t) - i)) 4097 = omega (arith, range.within) in
    let is : stayed k total ≡ reckoned_pieces none_reckoned (pieces_of s range t) =
    ap (λ j. stayed k j) n ∙ sym (reckoned_past v (span_of range) k i (seen_lines t) (omega arith) p.few) ∙ p.whole in
    subst (λ (x : Reckoned). Right (after s range t) (last_new 0 0 (pieces_of s range t)) x) (sym is)
    (tallied-right _ _ _
    (tally_all (seen_lines t) (seen_fit t f) (pieces_of s range t) [] 0 none_reckoned
    (rewritten-present v (span_of range) (length (seen_lines t)) 1 (seen_lines t) (omega arith) (omega arith)) tally_none))

-- a line that matches
pub pieces_hit : (s : Substitution) (n : ℕ) (t : List ℕ) → matches s.sought t ≡ true → pieces_for s n t ≡ news (substituted s t)
pieces_hit s n t e = ap (λ b. elim b as (λ _. List Piece) [ true ↦ news (substituted s t) | false ↦ old n ∷ [] ]) e
