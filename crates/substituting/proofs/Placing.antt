-- Lines put and taken away, as an editor sees them.
use Rattle.std.proofs.Common.{◌≡◌, ℕ, ◌+◌, ◌-◌, ◌<◌, ◌≤◌, true, false, not, leb, List, [], ◌∷◌, ◌++◌, map, length, get_or, take, drop, Some, Option, sym, refl, ap, ◌∙◌, arith}
use Rattle.std.proofs.lemmas.List.{append_assoc, length-append, length-map, length-take-le, length-drop, map-append, take-map, drop-map, take_at, drop_at, take-append-drop, get_or-map, drop_more}
use Rattle.std.proofs.lemmas.Bool.{not-true, and_parts, leb-true}
use Rattle.lines.specs.Line as stored
use Rattle.lines.specs.Store.{Store, line_at, inserted}
use Rattle.command.specs.Said.{Substitution}
use Rattle.lines.specs.Line.{all_fit}
use Rattle.rules.specs.Doing.{texts_of}
use Rattle.rules.specs.Lines.{Line, seen, seen_lines, created}
use Rattle.rules.specs.Patterns.{matches, substituted}
use Rattle.substituting.specs.Made.{lines_for}
use Rattle.arrayvec.specs.ArrayVec.{ArrayVec}
use Rattle.substituting.specs.Spelling.{line_of}
use Rattle.substituting.proofs.Writing.{line_short}

pub seen-inserted : (ls : List stored.Line) (n : ℕ) (t : List ℕ)
    → map seen (inserted ls n (record { text = t; tag = 0 })) ≡ take n (map seen ls) ++ (created t ∷ drop n (map seen ls))
seen-inserted ls n t = rw (map-append seen (take n ls), take-map seen n ls, drop-map seen n ls)

pub seen_removed : (ls : List stored.Line) (n : ℕ) → map seen (take (n - 1) ls ++ drop n ls) ≡ take (n - 1) (map seen ls) ++ drop n (map seen ls)
seen_removed ls n = rw (map-append seen (take (n - 1) ls), take-map seen (n - 1) ls, drop-map seen n ls)

-- lines without one of them, in front of it and behind it
pub front_gone : {L : Type 0} (ls : List L) (n : ℕ) → n < length ls → take n (take (n + 1 - 1) ls ++ drop (n + 1) ls) ≡ take n ls
front_gone ls n h =
    let back : n + 1 - 1 ≡ n = omega arith in
    ap (λ (k : ℕ). take n (take k ls ++ drop (n + 1) ls)) back ∙ take_at (take n ls) (drop (n + 1) ls) n (length-take-le n ls (omega arith))

pub rest_gone : {L : Type 0} (ls : List L) (n : ℕ) → n < length ls → drop n (take (n + 1 - 1) ls ++ drop (n + 1) ls) ≡ drop (n + 1) ls
rest_gone ls n h =
    let back : n + 1 - 1 ≡ n = omega arith in
    ap (λ (k : ℕ). drop n (take k ls ++ drop (n + 1) ls)) back ∙ drop_at (take n ls) (drop (n + 1) ls) n (length-take-le n ls (omega arith))

-- what it is that a line fits
pub fitting_short : (w : List ℕ) → stored.fitting w ≡ true → length w ≤ 255
fitting_short w h = leb-true (length w) 255 (and_parts (leb (length w) 255) (not (stored.holds_break w)) h).0

pub fitting_unbroken : (w : List ℕ) → stored.fitting w ≡ true → stored.holds_break w ≡ false
fitting_unbroken w h = not-true (stored.holds_break w) (and_parts (leb (length w) 255) (not (stored.holds_break w)) h).1

-- a line that fits is spelled out as a whole
pub spelled_out : (w : List ℕ) → stored.fitting w ≡ true → line_of w ≡ Some (record { items = w })
spelled_out w h = line_short w (fitting_short w h)

-- lines that are put one after another, with those that are left
pub record Putting (all : List (List ℕ)) (start now : Store) (from b : ℕ) (left : List (List ℕ)) : Type 0 where
  pub lines : take b (seen_lines now) ++ (map created left ++ drop b (seen_lines now))
      ≡ take from (seen_lines start) ++ (map created all ++ drop from (seen_lines start))
  pub done : b + length left ≡ from + length all
  pub behind : b ≤ length now.lines
  pub fits : all_fit left ≡ true
  pub room : length now.lines + length left ≤ now.capacity
  pub capacity : now.capacity ≡ start.capacity

module _ (S : List Line) (b : ℕ) (x : Line) (h : b ≤ length S) where
  one_more : take b S ++ (x ∷ drop b S) ≡ (take b S ++ (x ∷ [])) ++ drop b S
  one_more = sym (append_assoc (take b S) (x ∷ []) (drop b S))

  length_front : length (take b S ++ (x ∷ [])) ≡ b + 1
  length_front = length-append (take b S) (x ∷ []) ∙ ap (λ n. n + 1) (length-take-le b S h)

  pub put_front : (xs : List Line)
      → take (b + 1) (take b S ++ (x ∷ drop b S)) ++ (xs ++ drop (b + 1) (take b S ++ (x ∷ drop b S))) ≡ take b S ++ ((x ∷ xs) ++ drop b S)
  put_front xs =
      let f : take (b + 1) (take b S ++ (x ∷ drop b S)) ≡ take b S ++ (x ∷ []) =
      ap (λ ls. take (b + 1) ls) one_more ∙ take_at (take b S ++ (x ∷ [])) (drop b S) (b + 1) length_front in
      let r : drop (b + 1) (take b S ++ (x ∷ drop b S)) ≡ drop b S =
      ap (λ ls. drop (b + 1) ls) one_more ∙ drop_at (take b S ++ (x ∷ [])) (drop b S) (b + 1) length_front in
      rw (f, r) (append_assoc (take b S) (x ∷ []) (xs ++ drop b S))

  pub length_put : length (take b S ++ (x ∷ drop b S)) ≡ length S + 1
  length_put =
      ap length one_more ∙ length-append (take b S ++ (x ∷ [])) (drop b S) ∙ omega (arith, length_front, length-drop b S)

pub putting_more : (all : List (List ℕ)) (start now next : Store) (from b : ℕ) (l : List ℕ) (left : List (List ℕ))
    → Putting all start now from b (l ∷ left)
    → seen_lines next ≡ take b (seen_lines now) ++ (created l ∷ drop b (seen_lines now)) → next.capacity ≡ now.capacity
    → Putting all start next from (b + 1) left
putting_more all start now next from b l left p e c =
    let S : List Line = seen_lines now in
    let n : length S ≡ length now.lines = length-map now.lines seen in
    let m : length (seen_lines next) ≡ length next.lines = length-map next.lines seen in
    let h : b ≤ length S = omega (arith, p.behind) in
    let q : length (seen_lines next) ≡ length S + 1 = ap length e ∙ length_put S b (created l) h in
    record {
      lines = ap (λ ls. take (b + 1) ls ++ (map created left ++ drop (b + 1) ls)) e ∙ put_front S b (created l) h (map created left) ∙ p.lines;
      done = omega (arith, p.done);
      behind = omega (arith, p.behind);
      fits = (and_parts (stored.fitting l) (all_fit left) p.fits).1;
      room = omega (arith, p.room);
      capacity = c ∙ p.capacity;
    }

-- the same, with what is left as it is spelled out
pub record Left (all : List (List ℕ)) (start now : Store) (from b : ℕ) (rest : List (Option (ArrayVec ℕ))) : Type 0 where
  pub lines : List (List ℕ)
  pub rest-is : rest ≡ map line_of lines
  pub putting : Putting all start now from b lines

-- the first of those lines, and the others
pub record Next (all : List (List ℕ)) (start now : Store) (from b : ℕ) (first : Option (ArrayVec ℕ)) (rest : List (Option (ArrayVec ℕ))) : Type 0 where
  pub line : List ℕ
  pub others : List (List ℕ)
  pub first-is : first ≡ Some (record { items = line })
  pub rest-is : rest ≡ map line_of others
  pub fits : stored.fitting line ≡ true
  pub putting : Putting all start now from b (line ∷ others)

module _ (all : List (List ℕ)) (start now : Store) (from b : ℕ) where
  first_put : (first : Option (ArrayVec ℕ)) (rest : List (Option (ArrayVec ℕ))) (lines : List (List ℕ)) → map line_of lines ≡ first ∷ rest
      → Putting all start now from b lines → Next all start now from b first rest
  first_put first rest [] e p = absurd (let z : ◌≡◌ {A = ℕ} 0 1 = cc in omega arith)
  first_put first rest (l ∷ ls) e p =
      let f : stored.fitting l ≡ true = (and_parts (stored.fitting l) (all_fit ls) p.fits).0 in
      let h : first ≡ line_of l = cc in
      record { line = l; others = ls; first-is = h ∙ spelled_out l f; rest-is = cc; fits = f; putting = p }

  pub next_put : (now_left : List (Option (ArrayVec ℕ))) (first : Option (ArrayVec ℕ)) (rest : List (Option (ArrayVec ℕ))) → Left all start now from b now_left
      → now_left ≡ first ∷ rest → Next all start now from b first rest
  next_put now_left first rest i e = first_put first rest i.lines (sym i.rest-is ∙ e) i.putting

pub same_items : (v : ArrayVec ℕ) (w : List ℕ) → Some v ≡ Some (record { items = w }) → v.items ≡ w
same_items v w e = let h : v ≡ record { items = w } = cc in ap (λ (x : ArrayVec ℕ). x.items) h

-- one line rewritten

pub texts-created : (ts : List (List ℕ)) → texts_of (map created ts) ≡ ts
texts-created [] = refl
texts-created (t ∷ ts) = ap (λ r. t ∷ r) (texts-created ts)

pub lines_hit : (s : Substitution) (l : Line) → matches s.sought l.text ≡ true → lines_for s l ≡ map created (substituted s l.text)
lines_hit s l e = ap (λ b. elim b as (λ _. List Line) [ true ↦ map created (substituted s l.text) | false ↦ l ∷ [] ]) e

pub lines_miss : (s : Substitution) (l : Line) → matches s.sought l.text ≡ false → lines_for s l ≡ l ∷ []
lines_miss s l e = ap (λ b. elim b as (λ _. List Line) [ true ↦ map created (substituted s l.text) | false ↦ l ∷ [] ]) e

pub seen_here : (t : Store) (n : ℕ) → n < length t.lines → get_or (seen_lines t) n (seen stored.blank) ≡ seen (line_at t (n + 1))
seen_here t n h =
    let e : n ≡ n + 1 - 1 = omega arith in
    get_or-map seen t.lines n stored.blank (seen stored.blank) h ∙ ap (λ k. seen (get_or t.lines k stored.blank)) e

-- a text around its line behind the first n
pub around : (t : Store) (n : ℕ) → n < length t.lines
    → seen_lines t ≡ take n (seen_lines t) ++ (seen (line_at t (n + 1)) ∷ drop (n + 1) (seen_lines t))
around t n h =
    let k : length (seen_lines t) ≡ length t.lines = length-map t.lines seen in
    sym (take-append-drop n (seen_lines t))
    ∙ ap (λ ls. take n (seen_lines t) ++ ls)
    (drop_more (seen_lines t) n (seen stored.blank) (omega arith) ∙ ap (λ x. x ∷ drop (n + 1) (seen_lines t)) (seen_here t n h))

module _ (S : List Line) (n : ℕ) (h : n < length S) where
  gone_is : take (n + 1 - 1) S ++ drop (n + 1) S ≡ take n S ++ drop (n + 1) S
  gone_is = let e : n + 1 - 1 ≡ n = omega arith in ap (λ k. take k S ++ drop (n + 1) S) e

  pub length-gone : length (take (n + 1 - 1) S ++ drop (n + 1) S) + 1 ≡ length S
  length-gone = ap (λ ls. length ls + 1) gone_is ∙ omega (arith, length-append (take n S) (drop (n + 1) S), length-take-le n S (omega arith), length-drop (n + 1) S)
