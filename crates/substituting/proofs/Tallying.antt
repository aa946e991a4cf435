-- What is reckoned is so: by the lines done so far, and the number of the last one created.
use Rattle.std.proofs.Common.{◌≡◌, ℕ, zero, suc, ◌+◌, ◌-◌, ◌≤◌, min, Bool, true, false, cond, leb, not, ◌&&◌, List, [], ◌∷◌, ◌++◌, map, length, take, drop, Some, None, Option, IfSome, sym, refl, ap, ◌∙◌, subst, arith}
use Rattle.std.proofs.lemmas.List.{append-nil, append_assoc, length-append, length-take-le, length-drop, drop-append-le, take-append-le, drop_at}
use Rattle.std.proofs.lemmas.Bool.{and_parts}
use Rattle.std.proofs.Math.Bool.{and_assoc, and-true}
use Rattle.std.specs.List.{fold}
use Rattle.lines.specs.Line.{holds_break, fitting, all_fit}
use Rattle.rules.specs.Doing.{texts_of}
use Rattle.rules.specs.Lines.{Line, picked, created}
use Rattle.rules.specs.Pieces.{Piece, old, new, span, news, placed, last_new}
use Rattle.rules.specs.Printing.{printed}
use Rattle.rules.proofs.Staying.{Present}
use Rattle.substituting.specs.declared.reckoning.Reckoned.{Reckoned}
use Rattle.substituting.specs.declared.reckoning.Created.{Created}
use Rattle.substituting.specs.Reckoning.{one_more, number_of, reckoned_line, reckoned_old, reckoned_pieces, none_reckoned, Right}
use Rattle.substituting.specs.Spelling.{line_of}

abbrev pub size_of : Option Created → ℕ
size_of None = 0
size_of (Some line) = line.size

pub record Tallied (done : List Line) (best : ℕ) (k : Reckoned) : Type 0 where
  pub count : k.count ≡ min (length done) 4097
  pub fits : k.fits ≡ all_fit (texts_of done)
  pub last : number_of k.last ≡ min best 4097
  pub some : IfSome k.last (λ line. 1 ≤ line.number)
  pub within : best ≤ length done
  pub size : k.fits ≡ true → length done ≤ 4096 → 1 ≤ best → size_of k.last ≡ length (printed (picked done best))

-- a line that is created, whether it is too long or not
abbrev pub with_new : Reckoned → List ℕ → Reckoned
with_new k t = record {
  count = one_more k.count;
  fits = k.fits && fitting t;
  last = Some (record { number = one_more k.count; size = cond (leb (length t) 255) (length t + 1) 0 });
}

pub new-is : (k : Reckoned) (t : List ℕ) → reckoned_line k (line_of t) ≡ with_new k t
new-is k t = by (leb (length t) 255) refl
  where
    with_size : Bool → ℕ → Reckoned
    with_size fits size = record {
      count = one_more k.count;
      fits = k.fits && fits;
      last = Some (record { number = one_more k.count; size = size });
    }

    by : (b : Bool) → leb (length t) 255 ≡ b
        → reckoned_line k (cond b (Some (record { items = t })) None) ≡ with_size (b && not (holds_break t)) (cond b (length t + 1) 0)
    by true h = ap (λ x. with_size (x && not (holds_break t)) (length t + 1)) h
    by false h = refl

-- reckoned one after another

pub reckoned_append : (ps qs : List Piece) (k : Reckoned) → reckoned_pieces k (ps ++ qs) ≡ reckoned_pieces (reckoned_pieces k ps) qs
reckoned_append [] qs k = refl
reckoned_append (old n ∷ ps) qs k = reckoned_append ps qs (reckoned_old k)
reckoned_append (new t ∷ ps) qs k = reckoned_append ps qs (reckoned_line k (line_of t))

pub reckoned_news : (ts : List (List ℕ)) (k : Reckoned) → fold reckoned_line k (map line_of ts) ≡ reckoned_pieces k (news ts)
reckoned_news [] k = refl
reckoned_news (t ∷ ts) k = reckoned_news ts (reckoned_line k (line_of t))

pub reckoned_few : (ps : List Piece) (k : Reckoned) → k.count ≤ 4097 → (reckoned_pieces k ps).count ≤ 4097
reckoned_few [] k h = h
reckoned_few (old n ∷ ps) k h = reckoned_few ps (reckoned_old k) (omega arith)
reckoned_few (new t ∷ ps) k h =
    let e = ap (λ (r : Reckoned). r.count) (new-is k t) in
    reckoned_few ps (reckoned_line k (line_of t)) (omega arith)

abbrev pub stayed : Reckoned → ℕ → Reckoned
stayed k m = record { count = m; fits = k.fits; last = k.last }

pub reckoned_span : (m n : ℕ) (k : Reckoned) → k.count ≤ 4097 → reckoned_pieces k (span n m) ≡ stayed k (min (k.count + m) 4097)
reckoned_span zero n k h = let e : k.count ≡ min (k.count + 0) 4097 = omega arith in ap (λ i. stayed k i) e
reckoned_span (suc m) n k h =
    let e : min (min (k.count + 1) 4097 + m) 4097 ≡ min (k.count + suc m) 4097 = omega arith in
    reckoned_span m (suc n) (reckoned_old k) (omega arith) ∙ ap (λ i. stayed k i) e

-- lines at the end

pub all_fit_append : (xs ys : List Line) → all_fit (texts_of (xs ++ ys)) ≡ (all_fit (texts_of xs) && all_fit (texts_of ys))
all_fit_append [] ys = refl
all_fit_append (x ∷ xs) ys =
    ap (λ b. fitting x.text && b) (all_fit_append xs ys) ∙ sym (and_assoc (fitting x.text) (all_fit (texts_of xs)) (all_fit (texts_of ys)))

picked_front : (b : ℕ) (xs ys : List Line) → 1 ≤ b → b ≤ length xs → picked (xs ++ ys) b ≡ picked xs b
picked_front zero xs ys h k = absurd (omega arith)
picked_front (suc j) xs ys h k =
    let e : length (drop j xs) ≡ length xs - j = length-drop j xs in
    ap (λ ls. take 1 ls) (drop-append-le j xs ys (omega arith)) ∙ take-append-le 1 (drop j xs) ys (omega arith)

picked_last : (xs : List Line) (l : Line) → picked (xs ++ (l ∷ [])) (suc (length xs)) ≡ l ∷ []
picked_last xs l = ap (λ ls. take 1 ls) (drop_at xs (l ∷ []) (length xs) refl)

tally_old : (done one : List Line) (best : ℕ) (k : Reckoned) → length one ≡ 1 → all_fit (texts_of one) ≡ true → Tallied done best k
    → Tallied (done ++ one) best (reckoned_old k)
tally_old done one best k n f g =
    let e : length (done ++ one) ≡ length done + length one = length-append done one in
    record {
      count = omega (arith, g.count);
      fits = g.fits ∙ sym (and-true (all_fit (texts_of done))) ∙ ap (λ b. all_fit (texts_of done) && b) (sym f) ∙ sym (all_fit_append done one);
      last = g.last;
      some = g.some;
      within = omega (arith, g.within);
      size = λ a b c. g.size a (omega arith) c ∙ ap (λ ls. length (printed ls)) (sym (picked_front best done one c g.within));
    }

tally_new : (done : List Line) (t : List ℕ) (best : ℕ) (k : Reckoned) → Tallied done best k
    → Tallied (done ++ (created t ∷ [])) (suc (length done)) (reckoned_line k (line_of t))
tally_new done t best k g =
    let e : length (done ++ (created t ∷ [])) ≡ length done + 1 = length-append done (created t ∷ []) in
    subst (λ (r : Reckoned). Tallied (done ++ (created t ∷ [])) (suc (length done)) r) (sym (new-is k t)) (record {
      count = omega (arith, g.count);
      fits = ap (λ b. b && fitting t) g.fits ∙ ap (λ b. all_fit (texts_of done) && b) (sym (and-true (fitting t))) ∙ sym (all_fit_append done (created t ∷ []));
      last = omega (arith, g.count);
      some = omega arith;
      within = omega arith;
      size = λ a b c.
          let p : fitting t ≡ true = (and_parts k.fits (fitting t) a).1 in
          ap (λ (x : Bool). cond x (length t + 1) 0) (and_parts _ _ p).0
          ∙ sym (ap (λ ls. length (printed ls)) (picked_last done (created t)) ∙ printed_one t);
    })
  where
    printed_one : (t : List ℕ) → length (printed (created t ∷ [])) ≡ length t + 1
    printed_one t = length-append (t ++ (10 ∷ [])) [] ∙ omega (arith, length-append t (10 ∷ []))

length-picked : (ls : List Line) (n : ℕ) → 1 ≤ n → n ≤ length ls → length (picked ls n) ≡ 1
length-picked ls zero a b = absurd (omega arith)
length-picked ls (suc n) a b = length-take-le 1 (drop n ls) (omega (arith, length-drop n ls))

moved : (d d' : List Line) (b b' : ℕ) (k : Reckoned) → d ≡ d' → b ≡ b' → Tallied d b k → Tallied d' b' k
moved d d' b b' k e q h = subst (λ (x : ℕ). Tallied d' x k) q (subst (λ (x : List Line). Tallied x b k) e h)

-- all pieces, where each line that stays is there and may be a line
pub tally_all : (ls : List Line) → ((n : ℕ) → all_fit (texts_of (picked ls n)) ≡ true) → (ps : List Piece) (done : List Line) (best : ℕ) (k : Reckoned)
    → Present (length ls) ps → Tallied done best k
    → Tallied (done ++ placed created ls ps) (last_new (length done) best ps) (reckoned_pieces k ps)
tally_all ls f [] done best k p g = subst (λ (d : List Line). Tallied d best k) (sym (append-nil done)) g
tally_all ls f (old n ∷ ps) done best k p g =
    let one : length (picked ls n) ≡ 1 = length-picked ls n p.0 p.1 in
    let e : length (done ++ picked ls n) ≡ suc (length done) = length-append done (picked ls n) ∙ omega arith in
    let h = tally_all ls f ps (done ++ picked ls n) best (reckoned_old k) p.2 (tally_old done (picked ls n) best k one (f n) g) in
    moved _ _ _ _ _ (append_assoc done (picked ls n) (placed created ls ps)) (ap (λ i. last_new i best ps) e) h
tally_all ls f (new t ∷ ps) done best k p g =
    let one : List Line = created t ∷ [] in
    let e : length (done ++ one) ≡ suc (length done) = length-append done one ∙ omega arith in
    let h = tally_all ls f ps (done ++ one) (suc (length done)) (reckoned_line k (line_of t)) p (tally_new done t best k g) in
    moved _ _ _ _ _ (append_assoc done one (placed created ls ps)) (ap (λ i. last_new i (suc (length done)) ps) e) h

pub tally_none : Tallied [] 0 none_reckoned
tally_none = record { count = refl; fits = refl; last = refl; some = tt; within = omega arith; size = λ a b c. absurd (omega arith) }

-- the size of the last line created, by its number
last_size : (last : Option Created) (best : ℕ) (f : ℕ → ℕ) → IfSome last (λ line. 1 ≤ line.number) → number_of last ≡ best
    → (1 ≤ best → size_of last ≡ f best) → IfSome last (λ line. line.size ≡ f line.number)
last_size None best f some e h = tt
last_size (Some line) best f some e h = h (omega arith) ∙ ap f (sym e)

pub tallied-right : (lines : List Line) (best : ℕ) (k : Reckoned) → Tallied lines best k → Right lines best k
tallied-right lines best k g = record {
  count = g.count;
  fits = g.fits;
  last = g.last;
  some = g.some;
  within = g.within;
  size = λ a b.
      let e : number_of k.last ≡ best = omega (arith, g.count, g.last, g.within) in
      last_size k.last best (λ n. length (printed (picked lines n))) g.some e (g.size a (omega (arith, g.count)));
}
