-- Every command of a list makes a text of lines that are there, and a current line within it.
use Rattle.std.proofs.Common.{◌≡◌, ℕ, suc, ◌+◌, ◌-◌, ◌<◌, ◌≤◌, Bool, true, false, cond, ◌&&◌, ◌||◌, ltb, leb, List, [], ◌∷◌, ◌++◌, length, refl, arith}
use Rattle.std.proofs.lemmas.List.{length-append}
use Rattle.std.proofs.lemmas.Bool.{ltb-true, ltb-false, leb-true, and_parts}
use Rattle.command.specs.declared.fault.Fault.TheVariants.{OutsideText, NoMatch, DestinationInRange}
use Rattle.command.specs.Said.{Address, Addresses, Substitution, Action, delete_lines, mark_line, move_lines, print_lines, print_next, print_number, substitute, write_file}
use Rattle.rules.specs.Addresses.{Range, both, to, base_line, line_of, range_of, whole_or, one_line}
use Rattle.rules.specs.Effects.{Effect, shows, alters, marks, files, current_range, deletes, moves, rewritten, name_of, effect_of}
use Rattle.rules.specs.Lines.{Line, Page}
use Rattle.rules.specs.Patterns.{matches, substituted}
use Rattle.rules.specs.Pieces.{Piece, stay, news, last_new}
use Rattle.rules.specs.World.{World}
use Rattle.rules.proofs.Staying.{Present, present-append, present-stay, present-news, length-stay, last_new-within}
use Rattle.rules.proofs.Whenever.{Whenever, whenever_then, whenever_any, whenever_check, by_test}

-- a current line within the text, if it was so before
abbrev Within : Page → ℕ → Type 0
Within g n = g.current ≤ length g.lines → n ≤ length g.lines

-- what an effect makes of a page
abbrev pub Fits : Page → Effect → Type 0
Fits g (shows n out) = Within g n
Fits g (alters ps n out) = Present (length g.lines) ps × (n ≤ length ps)
Fits g (marks n k) = Unit {0}
Fits g (files f c all out) = Unit {0}

-- a range that was checked
record Checked (g : Page) (r : Range) : Type 0 where
  some : 1 ≤ r.first
  upward : r.first ≤ r.final
  within : r.final ≤ length g.lines

-- lines deleted and moved

deletes_fits : (g : Page) (r : Range) → Checked g r → Fits g (deletes g r)
deletes_fits g r c = (
  present-append n (stay 1 (r.first - 1)) (stay (suc r.final) n)
      (present-stay n 1 (r.first - 1) (omega arith) (omega (arith, c.upward, c.within))) (present-stay n (suc r.final) n (omega arith) (omega arith)),
  current (ltb r.final n) (ltb-true r.final n),
)
  where
    n : ℕ
    n = length g.lines

    current : (b : Bool) → (b ≡ true → r.final < n) → cond b r.first (r.first - 1) ≤ length (stay 1 (r.first - 1) ++ stay (suc r.final) n)
    current true e = omega (arith, e refl, c.some, length-append (stay 1 (r.first - 1)) (stay (suc r.final) n), length-stay 1 (r.first - 1), length-stay (suc r.final) n)
    current false e = omega (arith, length-append (stay 1 (r.first - 1)) (stay (suc r.final) n), length-stay 1 (r.first - 1))

module _ (a b c d : List Piece) where
  present_four : (n : ℕ) → Present n a → Present n b → Present n c → Present n d → Present n (a ++ (b ++ (c ++ d)))
  present_four n p q r s = present-append n a (b ++ (c ++ d)) p (present-append n b (c ++ d) q (present-append n c d r s))

  length_four : length (a ++ (b ++ (c ++ d))) ≡ length a + (length b + (length c + length d))
  length_four = rw (length-append a (b ++ (c ++ d)), length-append b (c ++ d), length-append c d)

moves_fits : (g : Page) (r : Range) (t : ℕ) → Checked g r → t ≤ length g.lines → Fits g (moves g r t)
moves_fits g r t c h = by_test (Fits g) (ltb t r.first) _ _ (λ e. up (ltb-true t r.first e)) (λ e. down (ltb-false t r.first e))
  where
    n : ℕ
    n = length g.lines

    f : ℕ
    f = r.first

    l : ℕ
    l = r.final

    inside : Present (length g.lines) (stay r.first r.final)
    inside = present-stay n f l c.some c.within

    up : t < r.first → Fits g (alters (stay 1 t ++ (stay r.first r.final ++ (stay (suc t) (r.first - 1) ++ stay (suc r.final) (length g.lines)))) (t + (suc r.final - r.first)) [])
    up q = (
      present_four (stay 1 t) (stay f l) (stay (suc t) (f - 1)) (stay (suc l) n) n
          (present-stay n 1 t (omega arith) h) inside (present-stay n (suc t) (f - 1) (omega arith) (omega (arith, c.upward, c.within))) (present-stay n (suc l) n (omega arith) (omega arith)),
      omega (arith, length_four (stay 1 t) (stay f l) (stay (suc t) (f - 1)) (stay (suc l) n), length-stay 1 t, length-stay f l),
    )

    down : r.first ≤ t → Fits g (alters (stay 1 (r.first - 1) ++ (stay (suc r.final) t ++ (stay r.first r.final ++ stay (suc t) (length g.lines)))) t [])
    down q = (
      present_four (stay 1 (f - 1)) (stay (suc l) t) (stay f l) (stay (suc t) n) n
          (present-stay n 1 (f - 1) (omega arith) (omega (arith, c.upward, c.within))) (present-stay n (suc l) t (omega arith) h) inside (present-stay n (suc t) n (omega arith) (omega arith)),
      omega (arith, length_four (stay 1 (f - 1)) (stay (suc l) t) (stay f l) (stay (suc t) n), length-stay 1 (f - 1), length-stay (suc l) t, length-stay f l),
    )

-- lines made anew

rewritten-present : (s : Substitution) (r : Range) (m n : ℕ) (ls : List Line) → 1 ≤ n → n + length ls ≤ suc m → Present m (rewritten s r n ls)
rewritten-present s r m n [] a b = tt
rewritten-present s r m n (l ∷ ls) a b =
    let rest = rewritten-present s r m (suc n) ls (omega arith) (omega arith) in
    by_test (Present m) (leb r.first n && leb n r.final && matches s.sought l.text) _ _
    (λ _. present-append m (news (substituted s l.text)) _ (present-news m (substituted s l.text)) rest)
    (λ _. (a, omega arith, rest))

rewritten_fits : (s : Substitution) (r : Range) (g : Page) → Fits g (alters (rewritten s r 1 g.lines) (last_new 0 0 (rewritten s r 1 g.lines)) [])
rewritten_fits s r g = (
  rewritten-present s r (length g.lines) 1 g.lines (omega arith) (omega arith),
  omega (arith, last_new-within 0 0 (rewritten s r 1 g.lines) (omega arith)),
)

-- addresses worked out

range-checked : (g : Page) (a : Addresses) (d : Range) → Whenever (Checked g) (range_of g a d)
range-checked g a d = whenever_any (Checked g) (both g a d) _ λ r.
    whenever_check (Checked g) (leb 1 r.first && leb r.first r.final && leb r.final (length g.lines)) OutsideText _ λ e.
    let p = and_parts (leb 1 r.first && leb r.first r.final) (leb r.final (length g.lines)) e in
    let q = and_parts (leb 1 r.first) (leb r.first r.final) p.0 in
    record { some = leb-true 1 r.first q.0; upward = leb-true r.first r.final q.1; within = leb-true r.final (length g.lines) p.1 }

pub line-within : (g : Page) (a : Addresses) (d : ℕ) (zero_too : Bool) → Whenever (λ n. n ≤ length g.lines) (one_line g a d zero_too)
line-within g a d zero_too = whenever_any (λ n. n ≤ length g.lines) (both g a (to d d)) _ λ r.
    whenever_check (λ n. n ≤ length g.lines) ((zero_too || leb 1 r.final) && leb r.final (length g.lines)) OutsideText _ λ e.
    leb-true r.final (length g.lines) (and_parts (zero_too || leb 1 r.final) (leb r.final (length g.lines)) e).1

destination_within : (g : Page) (a : Address) → Whenever (λ n. n ≤ length g.lines) (line_of g a)
destination_within g a = whenever_any (λ n. n ≤ length g.lines) (base_line g a.base) _ λ b.
    whenever_check (λ n. n ≤ length g.lines) (leb a.back (b + a.ahead) && leb ((b + a.ahead) - a.back) (length g.lines)) OutsideText _ λ e.
    leb-true ((b + a.ahead) - a.back) (length g.lines) (and_parts (leb a.back (b + a.ahead)) (leb ((b + a.ahead) - a.back) (length g.lines)) e).1

-- the commands

pub effect_fits : (w : World) (a : Addresses) (d : Action) → Whenever (Fits w.text) (effect_of w a d)
unfolding effect_of
effect_fits w a delete_lines = whenever_then (Fits w.text) (Checked w.text) (range_of w.text a (current_range w.text)) _ (range-checked w.text a _) λ r c.
    deletes_fits w.text r c
effect_fits w a (mark_line m) = whenever_any (Fits w.text) (one_line w.text a w.text.current false) _ λ n. tt
effect_fits w a (move_lines d) = whenever_then (Fits w.text) (Checked w.text) (range_of w.text a (current_range w.text)) _ (range-checked w.text a _) λ r c.
    whenever_then (Fits w.text) (λ n. n ≤ length w.text.lines) (line_of w.text d) _ (destination_within w.text d) λ t h.
    whenever_check (Fits w.text) (ltb t r.first || ltb r.final t) DestinationInRange _ λ e.
    moves_fits w.text r t c h
effect_fits w a print_lines = whenever_then (Fits w.text) (Checked w.text) (range_of w.text a (current_range w.text)) _ (range-checked w.text a _) λ r c _.
    c.within
effect_fits w a print_next =
    whenever_then (Fits w.text) (λ n. n ≤ length w.text.lines) (one_line w.text a (suc w.text.current) false) _ (line-within w.text a _ false) λ n h _. h
effect_fits w a print_number = whenever_any (Fits w.text) (one_line w.text a (length w.text.lines) true) _ λ n h. h
effect_fits w a (substitute s) = whenever_any (Fits w.text) (range_of w.text a (current_range w.text)) _ λ r.
    whenever_check (Fits w.text) (leb 1 (last_new 0 0 (rewritten s r 1 w.text.lines))) NoMatch _ λ e.
    rewritten_fits s r w.text
effect_fits w a (write_file f) = whenever_any (Fits w.text) (whole_or w.text a) _ λ r.
    whenever_any (Fits w.text) (name_of w f) _ λ n. tt
