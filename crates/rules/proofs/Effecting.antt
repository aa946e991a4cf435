-- No command of a list makes a text in which a line stays twice.
use Rattle.std.proofs.Common.{◌≡◌, ℕ, zero, suc, ◌+◌, ◌-◌, ◌<◌, ◌≤◌, true, false, ◌&&◌, ◌||◌, ltb, leb, ◌⊎◌, List, [], ◌∷◌, ◌++◌, length, refl, inl, inr, arith}
use Rattle.std.proofs.lemmas.Bool.{ltb-true, ltb-false, leb-true, and_parts, or_cases}
use Rattle.command.specs.declared.fault.Fault.TheVariants.{OutsideText, NoMatch, DestinationInRange}
use Rattle.command.specs.Said.{Addresses, Substitution, Action, delete_lines, mark_line, move_lines, print_lines, print_next, print_number, substitute, write_file}
use Rattle.rules.specs.Addresses.{Range, both, line_of, range_of, whole_or, one_line}
use Rattle.rules.specs.Effects.{Effect, shows, alters, marks, files, current_range, deletes, moves, rewritten, name_of, effect_of}
use Rattle.rules.specs.Lines.{Line, Page}
use Rattle.rules.specs.Patterns.{matches}
use Rattle.rules.specs.Pieces.{Piece, span, stay, news, last_new}
use Rattle.rules.specs.World.{World}
use Rattle.rules.proofs.Sums.{OnceIn, once_wider, once_more, once_le, stays, Single, stays_append}
use Rattle.rules.proofs.Whenever.{Whenever, whenever_then, whenever_any, whenever_check, by_test}

-- lines that stay in order

span-once : (k f n hi : ℕ) → f + n ≡ hi → OnceIn f hi k (stays k (span f n))
span-once k f zero hi e = inl refl
span-once k f (suc n) hi e = once_more f hi k (stays k (span (suc f) n)) (omega arith) (span-once k (suc f) n hi (omega arith))

pub stay-once : (k f l : ℕ) → OnceIn f (f + (suc l - f)) k (stays k (stay f l))
stay-once k f l = span-once k f (suc l - f) (f + (suc l - f)) refl

stays_four : (k : ℕ) (a b c d : List Piece) → stays k (a ++ (b ++ (c ++ d))) ≡ stays k a + (stays k b + (stays k c + stays k d))
stays_four k a b c d = rw (stays_append k a (b ++ (c ++ d)), stays_append k b (c ++ d), stays_append k c d)

-- an effect under which no line stays twice

abbrev pub NoneTwice : Effect → Type 0
NoneTwice (shows n out) = Unit {0}
NoneTwice (alters ps n out) = Single ps
NoneTwice (marks n k) = Unit {0}
NoneTwice (files f c all out) = Unit {0}

abbrev Ordered : Range → Type 0
Ordered r = r.first ≤ r.final

deletes-once : (g : Page) (r : Range) → Ordered r → NoneTwice (deletes g r)
deletes-once g r h k =
    let front = stay-once k 1 (r.first - 1) in
    let behind = stay-once k (suc r.final) (length g.lines) in
    omega (arith, stays_append k (stay 1 (r.first - 1)) (stay (suc r.final) (length g.lines)))

moves-once : (g : Page) (r : Range) (t : ℕ) → Ordered r → ((t < r.first) ⊎ (r.final < t)) → NoneTwice (moves g r t)
moves-once g r t h out =
    by_test NoneTwice (ltb t r.first) _ _ (λ e. up (ltb-true t r.first e)) (λ e. down (ltb-false t r.first e))
  where
    up : t < r.first → Single (stay 1 t ++ (stay r.first r.final ++ (stay (suc t) (r.first - 1) ++ stay (suc r.final) (length g.lines))))
    up q k =
        let a = stay-once k 1 t in
        let b = stay-once k r.first r.final in
        let c = stay-once k (suc t) (r.first - 1) in
        let d = stay-once k (suc r.final) (length g.lines) in
        omega (
          arith,
          stays_four k (stay 1 t) (stay r.first r.final) (stay (suc t) (r.first - 1))
              (stay (suc r.final) (length g.lines)),
        )

    down : r.first ≤ t → Single (stay 1 (r.first - 1) ++ (stay (suc r.final) t ++ (stay r.first r.final ++ stay (suc t) (length g.lines))))
    down q k =
        let a = stay-once k 1 (r.first - 1) in
        let b = stay-once k (suc r.final) t in
        let c = stay-once k r.first r.final in
        let d = stay-once k (suc t) (length g.lines) in
        omega (
          arith,
          stays_four k (stay 1 (r.first - 1)) (stay (suc r.final) t) (stay r.first r.final)
              (stay (suc t) (length g.lines)),
        )

stays_news : (k : ℕ) (ts : List (List ℕ)) (ps : List Piece) → stays k (news ts ++ ps) ≡ stays k ps
stays_news k [] ps = refl
stays_news k (t ∷ ts) ps = stays_news k ts ps

rewritten-once : (k : ℕ) (s : Substitution) (r : Range) (n : ℕ) (ls : List Line) (hi : ℕ) → n + length ls ≡ hi
    → OnceIn n hi k (stays k (rewritten s r n ls))
rewritten-once k s r n [] hi e = inl refl
rewritten-once k s r n (l ∷ ls) hi e =
    let h = rewritten-once k s r (suc n) ls hi (omega arith) in
    by_test (λ ps. OnceIn n hi k (stays k ps)) (leb r.first n && leb n r.final && matches s.sought l.text) _ _
    (λ _. rw stays_news (once_wider n hi k _ h))
    (λ _. once_more n hi k _ (omega arith) h)

-- the commands

range_ordered : (g : Page) (a : Addresses) (d : Range) → Whenever Ordered (range_of g a d)
range_ordered g a d = whenever_any Ordered (both g a d) _ λ r.
    whenever_check Ordered (leb 1 r.first && leb r.first r.final && leb r.final (length g.lines)) OutsideText _ λ e.
    let both_hold = (and_parts (leb 1 r.first && leb r.first r.final) (leb r.final (length g.lines)) e).0 in
    leb-true r.first r.final (and_parts (leb 1 r.first) (leb r.first r.final) both_hold).1

outside : (t f l : ℕ) → (ltb t f || ltb l t) ≡ true → (t < f) ⊎ (l < t)
outside t f l e = elim (or_cases (ltb t f) (ltb l t) e) [ inl h ↦ inl (ltb-true t f h) | inr h ↦ inr (ltb-true l t h) ]

pub effect_once : (w : World) (a : Addresses) (d : Action) → Whenever NoneTwice (effect_of w a d)
unfolding effect_of
effect_once w a delete_lines =
    whenever_then NoneTwice Ordered (range_of w.text a (current_range w.text)) _ (range_ordered w.text a _) λ r h.
    deletes-once w.text r h
effect_once w a (mark_line m) = whenever_any NoneTwice (one_line w.text a w.text.current false) _ λ n. tt
effect_once w a (move_lines d) =
    whenever_then NoneTwice Ordered (range_of w.text a (current_range w.text)) _ (range_ordered w.text a _) λ r h.
    whenever_any NoneTwice (line_of w.text d) _ λ t.
    whenever_check NoneTwice (ltb t r.first || ltb r.final t) DestinationInRange _ λ e.
    moves-once w.text r t h (outside t r.first r.final e)
effect_once w a print_lines = whenever_any NoneTwice (range_of w.text a (current_range w.text)) _ λ r. tt
effect_once w a print_next = whenever_any NoneTwice (one_line w.text a (suc w.text.current) false) _ λ n. tt
effect_once w a print_number = whenever_any NoneTwice (one_line w.text a (length w.text.lines) true) _ λ n. tt
effect_once w a (substitute s) =
    whenever_any NoneTwice (range_of w.text a (current_range w.text)) _ λ r.
    whenever_check NoneTwice (leb 1 (last_new 0 0 (rewritten s r 1 w.text.lines))) NoMatch _ λ e k.
    once_le 1 _ k _ (rewritten-once k s r 1 w.text.lines (1 + length w.text.lines) refl)
effect_once w a (write_file f) =
    whenever_any NoneTwice (whole_or w.text a) _ λ r.
    whenever_any NoneTwice (name_of w f) _ λ n. tt
