-- A text of which the lines of a range are rewritten one after another.
use Rattle.std.proofs.Common.{◌≡◌, ℕ, zero, suc, ◌+◌, ◌-◌, ◌<◌, ◌≤◌, Bool, true, false, ◌&&◌, leb, List, [], ◌∷◌, ◌++◌, map, length, get_or, take, drop, sym, refl, ap, ◌∙◌, subst, add-one, arith}
use Rattle.std.proofs.lemmas.List.{append-nil, append_assoc, length-append, length-map, length-take-le, length-drop, take_at, drop_at, drop-drop, drop_more, take-append-drop, take_rest, get_or-append-add, get_or-drop}
use Rattle.std.proofs.lemmas.Bool.{and_parts}
use Rattle.std.proofs.Math.Seq.{take-add}
use Rattle.lines.specs.Line as stored
use Rattle.lines.specs.Store.{Store, line_at}
use Rattle.command.specs.Replacements.{Bit, bits_of}
use Rattle.command.specs.declared.said.Substitution.{Substitution as SubstitutionCode}
use Rattle.command.specs.Said.{Substitution}
use Rattle.command.specs.View.{substitution_view}
use Rattle.matching.specs.declared.answer.Match.{Match}
use Rattle.ranges.specs.declared.range.Range.{Range}
use Rattle.ranges.specs.Spans.{span_of}
use Rattle.rules.specs.Addresses.{Range as Span}
use Rattle.lines.specs.Line.{all_fit}
use Rattle.rules.specs.Doing.{texts_of}
use Rattle.rules.specs.Effects.{rewritten}
use Rattle.rules.specs.Lines.{Line, seen, seen_lines, created, picked}
use Rattle.rules.specs.Patterns.{matches, in_front, replaced, substituted}
use Rattle.rules.specs.Pieces.{Piece, old, new, span, news, placed}
use Rattle.rules.proofs.Staying.{length-placed}
use Rattle.rules.proofs.Whenever.{by_test}
use Rattle.substituting.specs.Made.{after, pieces_for, lines_for}
use Rattle.substituting.proofs.Piecing.{rewritten_front, rewritten_next, rewritten-past, rewritten-present}
use Rattle.substituting.proofs.Placing.{seen_here}
use Rattle.substituting.proofs.Tallying.{all_fit_append}

-- pieces placed

pub placed-append : (L : List Line) (ps qs : List Piece) → placed created L (ps ++ qs) ≡ placed created L ps ++ placed created L qs
placed-append L [] qs = refl
placed-append L (old n ∷ ps) qs =
    ap (λ r. picked L n ++ r) (placed-append L ps qs) ∙ sym (append_assoc (picked L n) (placed created L ps) (placed created L qs))
placed-append L (new t ∷ ps) qs = ap (λ r. created t ∷ r) (placed-append L ps qs)

placed-news : (L : List Line) (ts : List (List ℕ)) → placed created L (news ts) ≡ map created ts
placed-news L [] = refl
placed-news L (t ∷ ts) = ap (λ r. created t ∷ r) (placed-news L ts)

placed-span : (m i : ℕ) (L : List Line) → i + m ≤ length L → placed created L (span (suc i) m) ≡ take m (drop i L)
placed-span zero i L h = refl
placed-span (suc m) i L h =
    let e : drop 1 (drop i L) ≡ drop (suc i) L = drop-drop 1 i L ∙ ap (λ n. drop n L) (add-one i) in
    let n : 1 + m ≡ suc m = omega arith in
    ap (λ r. take 1 (drop i L) ++ r) (placed-span m (suc i) L (omega arith) ∙ ap (λ r. take m r) (sym e))
    ∙ sym (take-add 1 m (drop i L))
    ∙ ap (λ k. take k (drop i L)) n

placed_one : (i : ℕ) (L : List Line) (d : Line) → i < length L → placed created L (old (i + 1) ∷ []) ≡ get_or L i d ∷ []
placed_one i L d h =
    append-nil (picked L (i + 1))
    ∙ ap (λ n. picked L n) (add-one i)
    ∙ ap (λ r. take 1 r) (drop_more L i d h)

placed_for : (s : Substitution) (i : ℕ) (L : List Line) (d : Line) → i < length L
    → placed created L (pieces_for s (i + 1) (get_or L i d).text) ≡ lines_for s (get_or L i d)
placed_for s i L d h = by (matches s.sought (get_or L i d).text)
  where
    by : (b : Bool)
        → placed created L (elim b as (λ _. List Piece) [ true ↦ news (substituted s (get_or L i d).text) | false ↦ old (i + 1) ∷ [] ])
        ≡ (elim b as (λ _. List Line) [ true ↦ map created (substituted s (get_or L i d).text) | false ↦ get_or L i d ∷ [] ])
    by true = placed-news L (substituted s (get_or L i d).text)
    by false = placed_one i L d h

-- no line is lost

some_front : (a : List ℕ) (ls : List (List ℕ)) → 1 ≤ length (in_front a ls)
some_front a [] = omega arith
some_front a (l ∷ ls) = omega arith

some-replaced : (r : List Bit) (t : List ℕ) (from : ℕ) (ms : List Match) → 1 ≤ length (replaced r t from ms)
some-replaced r t from [] = omega arith
some-replaced r t from (m ∷ ms) = some_front _ _

some-substituted : (s : Substitution) (t : List ℕ) → 1 ≤ length (substituted s t)
unfolding substituted
some-substituted s t = some-replaced (bits_of s.replacement) t 0 _

length-news : (ts : List (List ℕ)) → length (news ts) ≡ length ts
length-news [] = refl
length-news (t ∷ ts) = ap suc (length-news ts)

none_lost : (s : Substitution) (r : Span) (n : ℕ) (ls : List Line) → length ls ≤ length (rewritten s r n ls)
none_lost s r n [] = omega arith
none_lost s r n (l ∷ ls) =
    let h = none_lost s r (suc n) ls in
    by_test (λ ps. suc (length ls) ≤ length ps) (leb r.first n && leb n r.final && matches s.sought l.text) _ _
    (λ _. omega (arith, length-append (news (substituted s l.text)) (rewritten s r (suc n) ls), length-news (substituted s l.text), some-substituted s l.text))
    (λ _. omega arith)

-- the text with i lines done: what stands in front of the others
pub record Underway (s : Substitution) (r : Span) (start now : Store) (i n : ℕ) : Type 0 where
  pub front : List Line
  pub lines : seen_lines now ≡ front ++ drop i (seen_lines start)
  pub whole : front ++ placed created (seen_lines start) (rewritten s r (i + 1) (drop i (seen_lines start)))
      ≡ placed created (seen_lines start) (rewritten s r 1 (seen_lines start))
  pub done : n ≡ length front
  pub capacity : now.capacity ≡ start.capacity

module _ (s : Substitution) (r : Span) (start : Store) where
  -- the lines in front of the range stay
  pub front_stays : (m : ℕ) → m + 1 ≤ r.first → m ≤ length (seen_lines start)
      → take m (seen_lines start) ++ placed created (seen_lines start) (rewritten s r (m + 1) (drop m (seen_lines start)))
      ≡ placed created (seen_lines start) (rewritten s r 1 (seen_lines start))
  front_stays m h k =
      let S : List Line = seen_lines start in
      let e : 1 + m ≡ m + 1 = omega arith in
      sym (ap (λ ps. placed created S ps) (rewritten_front s r m 1 S (omega arith) k ∙ ap (λ i. span 1 m ++ rewritten s r i (drop m S)) e)
      ∙ placed-append S (span 1 m) (rewritten s r (m + 1) (drop m S))
      ∙ ap (λ x. x ++ placed created S (rewritten s r (m + 1) (drop m S))) (placed-span m 0 S (omega arith)))

  pub underway_start : (m : ℕ) → m + 1 ≤ r.first → m ≤ length (seen_lines start) → Underway s r start start m m
  underway_start m h k = record {
    front = take m (seen_lines start);
    lines = sym (take-append-drop m (seen_lines start));
    whole = front_stays m h k;
    done = sym (length-take-le m (seen_lines start) k);
    capacity = refl;
  }

  module _ (now : Store) (i n : ℕ) (p : Underway s r start now i n) (here : i < length (seen_lines start)) where
    -- the next line is the one that it was
    length_now : length now.lines ≡ n + (length (seen_lines start) - i)
    length_now =
        sym (length-map now.lines seen) ∙ ap length p.lines
        ∙ omega (arith, length-append p.front (drop i (seen_lines start)), length-drop i (seen_lines start), p.done)

    pub present_now : n < length now.lines
    present_now = omega (arith, length_now)

    pub next-line : seen (line_at now (n + 1)) ≡ get_or (seen_lines start) i (seen stored.blank)
    next-line =
        let d : Line = seen stored.blank in
        let z : n ≡ length p.front + 0 = omega (arith, p.done) in
        let y : i + 0 ≡ i = omega arith in
        sym (seen_here now n present_now)
        ∙ ap (λ ls. get_or ls n d) p.lines
        ∙ ap (λ k. get_or (p.front ++ drop i (seen_lines start)) k d) z
        ∙ get_or-append-add p.front (drop i (seen_lines start)) 0 d
        ∙ get_or-drop i (seen_lines start) 0 d
        ∙ ap (λ k. get_or (seen_lines start) k d) y

    module _ (low : r.first ≤ i + 1) (high : i + 1 ≤ r.final) where
      whole_next : p.front ++ (lines_for s (seen (line_at now (n + 1))) ++ placed created (seen_lines start) (rewritten s r (i + 1 + 1) (drop (i + 1) (seen_lines start))))
          ≡ placed created (seen_lines start) (rewritten s r 1 (seen_lines start))
      whole_next =
          let S : List Line = seen_lines start in
          let d : Line = seen stored.blank in
          let more : List Piece = rewritten s r (i + 1 + 1) (drop (i + 1) S) in
          ap (λ l. p.front ++ (lines_for s l ++ placed created S more)) next-line
          ∙ sym (ap (λ x. p.front ++ x)
          (ap (λ ps. placed created S ps) (rewritten_next s r i S d here low high)
          ∙ placed-append S (pieces_for s (i + 1) (get_or S i d).text) more
          ∙ ap (λ x. x ++ placed created S more) (placed_for s i S d here)))
          ∙ p.whole

      pub fits_next : all_fit (texts_of (placed created (seen_lines start) (rewritten s r 1 (seen_lines start)))) ≡ true
          → all_fit (texts_of (lines_for s (seen (line_at now (n + 1))))) ≡ true
      fits_next f =
          let made : List Line = lines_for s (seen (line_at now (n + 1))) in
          let more : List Line = placed created (seen_lines start) (rewritten s r (i + 1 + 1) (drop (i + 1) (seen_lines start))) in
          let a = sym (all_fit_append p.front (made ++ more)) ∙ ap (λ ls. all_fit (texts_of ls)) whole_next ∙ f in
          let b = sym (all_fit_append made more) ∙ (and_parts (all_fit (texts_of p.front)) (all_fit (texts_of (made ++ more))) a).1 in
          (and_parts (all_fit (texts_of made)) (all_fit (texts_of more)) b).0

      pub room_next : length (placed created (seen_lines start) (rewritten s r 1 (seen_lines start))) ≤ start.capacity
          → length now.lines + length (lines_for s (seen (line_at now (n + 1)))) ≤ now.capacity + 1
      room_next f =
          let S : List Line = seen_lines start in
          let made : List Line = lines_for s (seen (line_at now (n + 1))) in
          let ps : List Piece = rewritten s r (i + 1 + 1) (drop (i + 1) S) in
          let a : length (drop (i + 1) S) ≡ length S - (i + 1) = length-drop (i + 1) S in
          let b : length (placed created S ps) ≡ length ps =
          length-placed created S ps (rewritten-present s r (length S) (i + 1 + 1) (drop (i + 1) S) (omega arith) (omega arith)) in
          let c : length (drop (i + 1) S) ≤ length ps = none_lost s r (i + 1 + 1) (drop (i + 1) S) in
          let d : length (p.front ++ (made ++ placed created S ps)) ≡ length (placed created S (rewritten s r 1 S)) = ap length whole_next in
          omega (
            arith,
            length_now,
            length-append p.front (made ++ placed created S ps),
            length-append made (placed created S ps),
            p.done,
            p.capacity,
          )

      pub underway_next : (next : Store) (k : ℕ)
          → seen_lines next ≡ take n (seen_lines now) ++ (lines_for s (seen (line_at now (n + 1))) ++ drop (n + 1) (seen_lines now))
          → next.capacity ≡ now.capacity → k ≡ n + length (lines_for s (seen (line_at now (n + 1))))
          → Underway s r start next (i + 1) k
      underway_next next k e c d =
          let S : List Line = seen_lines start in
          let made : List Line = lines_for s (seen (line_at now (n + 1))) in
          let f : take n (seen_lines now) ≡ p.front = ap (λ ls. take n ls) p.lines ∙ take_at p.front (drop i S) n (sym p.done) in
          let q : drop (n + 1) (seen_lines now) ≡ drop (i + 1) S =
          sym (drop-drop 1 n (seen_lines now))
          ∙ ap (λ ls. drop 1 ls) (ap (λ ls. drop n ls) p.lines ∙ drop_at p.front (drop i S) n (sym p.done))
          ∙ drop-drop 1 i S in
          record {
            front = p.front ++ made;
            lines = e ∙ ap (λ x. x ++ (made ++ drop (n + 1) (seen_lines now))) f ∙ ap (λ x. p.front ++ (made ++ x)) q ∙ sym (append_assoc p.front made (drop (i + 1) S));
            whole = append_assoc p.front made (placed created S (rewritten s r (i + 1 + 1) (drop (i + 1) S))) ∙ whole_next;
            done = omega (arith, length-append p.front made, p.done);
            capacity = c ∙ p.capacity;
          }

  -- the lines behind the range stay
  pub underway_over : (now : Store) (i n : ℕ) → Underway s r start now i n → r.final ≤ i → i ≤ length (seen_lines start)
      → seen_lines now ≡ placed created (seen_lines start) (rewritten s r 1 (seen_lines start))
  underway_over now i n p past inside =
      let S : List Line = seen_lines start in
      let a : length (drop i S) ≡ length S - i = length-drop i S in
      let e : placed created S (rewritten s r (i + 1) (drop i S)) ≡ drop i S =
      ap (λ ps. placed created S ps) (rewritten-past s r (i + 1) (drop i S) (omega arith))
      ∙ ap (λ k. placed created S (span k (length (drop i S)))) (add-one i)
      ∙ placed-span (length (drop i S)) i S (omega arith)
      ∙ ap (λ k. take k (drop i S)) a
      ∙ take_rest S i in
      p.lines ∙ ap (λ x. p.front ++ x) (sym e) ∙ p.whole

-- line n of the range is the next one
pub record Turn (s : Substitution) (r : Span) (start now : Store) (n b : ℕ) : Type 0 where
  pub under : Underway s r start now (n - 1) b
  pub some : 1 ≤ n
  pub here : n ≤ length (seen_lines start)
  pub low : r.first ≤ n
  pub high : n ≤ r.final

pub turn_of : (s : Substitution) (range : Range) (start now : Store) (n b : ℕ) → Underway s (span_of range) start now (n - 1) b
    → range.count ≡ length start.lines → range.first ≤ n → n ≤ range.last → Turn s (span_of range) start now n b
turn_of s range start now n b p count low high =
    let k : length (seen_lines start) ≡ length start.lines = length-map start.lines seen in
    record { under = p; some = omega (arith, range.some); here = omega (arith, range.within); low = low; high = high }

module _ (s : Substitution) (r : Span) (start now : Store) (n b : ℕ) (k : Turn s r start now n b) where
  here_now : n - 1 < length (seen_lines start)
  here_now = omega (arith, k.some, k.here)

  low_now : r.first ≤ n - 1 + 1
  low_now = omega (arith, k.low)

  high_now : n - 1 + 1 ≤ r.final
  high_now = omega (arith, k.some, k.high)

  pub fits_turn : all_fit (texts_of (placed created (seen_lines start) (rewritten s r 1 (seen_lines start)))) ≡ true
      → all_fit (texts_of (lines_for s (seen (line_at now (b + 1))))) ≡ true
  fits_turn f = fits_next s r start now (n - 1) b k.under here_now low_now high_now f

  pub room_turn : length (placed created (seen_lines start) (rewritten s r 1 (seen_lines start))) ≤ start.capacity
      → length now.lines + length (lines_for s (seen (line_at now (b + 1)))) ≤ now.capacity + 1
  room_turn f = room_next s r start now (n - 1) b k.under here_now low_now high_now f

  pub under_turn : (next : Store) (j : ℕ)
      → seen_lines next ≡ take b (seen_lines now) ++ (lines_for s (seen (line_at now (b + 1))) ++ drop (b + 1) (seen_lines now))
      → next.capacity ≡ now.capacity → j ≡ b + length (lines_for s (seen (line_at now (b + 1))))
      → Underway s r start next (n + 1 - 1) j
  under_turn next j e c d =
      let behind : n - 1 + 1 ≡ n + 1 - 1 = omega (arith, k.some) in
      subst (λ i. Underway s r start next i j) behind (underway_next s r start now (n - 1) b k.under here_now low_now high_now next j e c d)

pub front_kept : (s : SubstitutionCode) (range : Range) (t : Store) → range.count ≡ length t.lines
    → take (range.first - 1) (after s range t) ≡ take (range.first - 1) (seen_lines t)
front_kept s range t n =
    let m : ℕ = range.first - 1 in
    let k : length (seen_lines t) ≡ length t.lines = length-map t.lines seen in
    let h : m ≤ length (seen_lines t) = omega (arith, range.order, range.within) in
    ap (λ ls. take m ls) (sym (front_stays (substitution_view s) (span_of range) t m (omega (arith, range.some)) h))
    ∙ take_at (take m (seen_lines t)) _ m (length-take-le m (seen_lines t) h)
