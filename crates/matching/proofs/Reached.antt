-- What the flags of a row say: the bytes from the start up to a reached place fit the items so far.
use Rattle.std.proofs.Common.{◌≡◌, ℕ, zero, suc, ◌+◌, ◌-◌, ◌<◌, ◌≤◌, Bool, true, false, ◌&&◌, ◌||◌, ltb, ◌⊎◌, List, [], ◌∷◌, ◌++◌, length, get_or, take, drop, set, Some, None, Decides, Option, sym, refl, ap, ◌∙◌, subst, inl, inr, ⊎_elim, add-one, arith}
use Rattle.std.specs.List.{between}
use Rattle.std.specs.Option.{option_map}
use Rattle.std.proofs.lemmas.List.Edits.{between_none, between_more, length-between}
use Rattle.std.proofs.lemmas.List.{append-nil, append_assoc, length-append, length-drop, same_from_push, get_or-set_same, get_or-set_other, nil_from_length}
use Rattle.std.proofs.lemmas.Bool.{both_ways, cases_eq, and_parts, and_from, or_cases, or_left, or_right, lt-ltb, ltb-true}
use Rattle.patterns.specs.Sets.{Set, has}
use Rattle.patterns.specs.Items.{Bytes, Item}
use Rattle.matching.specs.Fitting.{Within, Piece, Pieces, joined, Fits}
use Rattle.matching.specs.Matching.{longest_run}
use Rattle.matching.specs.declared.reach.Reach.{Reach}
use Rattle.matching.specs.Rows.{reached, byte_in, by_byte, taken, Spans, NoneReached, longest_end}
use Rattle.matching.proofs.Fitted.{IsBest, best_one, Head, longest_right}
use Rattle.matching.proofs.Rows.{taken_none, below_none}

-- a list from its end
snoc : (bs : Bytes) → (bs ≡ []) ⊎ ((cs : Bytes) × (x : ℕ) × (bs ≡ cs ++ x ∷ []))
snoc [] = inl refl
snoc (b ∷ bs) = inr (go (snoc bs))
  where
    go : (bs ≡ []) ⊎ ((cs : Bytes) × (x : ℕ) × (bs ≡ cs ++ x ∷ [])) → (cs : Bytes) × (x : ℕ) × ((b ∷ bs) ≡ cs ++ x ∷ [])
    go (inl e) = ([], b, ap (λ xs. b ∷ xs) e)
    go (inr r) = (b ∷ r.0, r.1, ap (λ xs. b ∷ xs) r.2)

within_parts : (s : Set) (bs : Bytes) (x : ℕ) → Within s (bs ++ x ∷ []) → Within s bs × (has s x ≡ true)
within_parts s [] x w = (tt, w.0)
within_parts s (b ∷ bs) x w = let r = within_parts s bs x w.1 in ((w.0, r.0), r.1)

within_push : (s : Set) (bs : Bytes) (x : ℕ) → Within s bs → has s x ≡ true → Within s (bs ++ x ∷ [])
within_push s [] x w h = (h, tt)
within_push s (b ∷ bs) x w h = (w.0, within_push s bs x w.1 h)

-- the last item's piece
module _ (i : Item) where
  split_last : (is : List Item) (run : Bytes) → Fits (is ++ i ∷ []) run → (a : Bytes) × (b : Bytes) × (run ≡ a ++ b) × Fits is a × Piece i b
  split_last [] run f = go f.0 f.1 f.2
    where
      go : (ps : List Bytes) → run ≡ joined ps → Pieces (i ∷ []) ps → (a : Bytes) × (b : Bytes) × (run ≡ a ++ b) × Fits [] a × Piece i b
      go [] e q = absurd q
      go (p ∷ []) e q = ([], p, e ∙ append-nil p, ([], refl, tt), q.0)
      go (p ∷ r ∷ ps) e q = absurd q.1
  split_last (j ∷ is) run f = go (split_last is) f.0 f.1 f.2
    where
      go : ((xs : Bytes) → Fits (is ++ i ∷ []) xs → (a : Bytes) × (b : Bytes) × (xs ≡ a ++ b) × Fits is a × Piece i b)
          → (ps : List Bytes) → run ≡ joined ps → Pieces (j ∷ (is ++ i ∷ [])) ps → (a : Bytes) × (b : Bytes) × (run ≡ a ++ b) × Fits (j ∷ is) a × Piece i b
      go ih [] e q = absurd q
      go ih (p ∷ ps) e q =
          let r = ih (joined ps) (ps, refl, q.1) in (
            p ++ r.0,
            r.1,
            e ∙ ap (λ xs. p ++ xs) r.2 ∙ sym (append_assoc p r.0 r.1),
            (p ∷ r.3.0, ap (λ xs. p ++ xs) r.3.1, (q.0, r.3.2)),
            r.4,
          )

  join_last : (is : List Item) (a b : Bytes) → Fits is a → Piece i b → Fits (is ++ i ∷ []) (a ++ b)
  join_last [] a b f g = go f.0 f.1 f.2
    where
      go : (ps : List Bytes) → a ≡ joined ps → Pieces [] ps → Fits (i ∷ []) (a ++ b)
      go [] e q = (b ∷ [], ap (λ xs. xs ++ b) e ∙ sym (append-nil b), (g, tt))
      go (p ∷ ps) e q = absurd q
  join_last (j ∷ is) a b f g = go (join_last is) f.0 f.1 f.2
    where
      go : ((c d : Bytes) → Fits is c → Piece i d → Fits (is ++ i ∷ []) (c ++ d))
          → (ps : List Bytes) → a ≡ joined ps → Pieces (j ∷ is) ps → Fits (j ∷ (is ++ i ∷ [])) (a ++ b)
      go ih [] e q = absurd q
      go ih (p ∷ ps) e q =
          let r = ih (joined ps) b (ps, refl, q.1) g in
          (p ∷ r.0, ap (λ xs. xs ++ b) e ∙ append_assoc p (joined ps) b ∙ ap (λ xs. p ++ xs) r.1, (q.0, r.2))

-- a place that the items reach from a start
abbrev pub ReachedAt : List Item → Bytes → ℕ → ℕ → Type 0
ReachedAt is line s p = (s ≤ p) × (p ≤ length line) × Fits is (between s p line)

-- a row that says so
abbrev pub Row : List Item → Bytes → ℕ → List Bool → Type 0
Row is line s row = (p : ℕ) → Decides (reached row p) (ReachedAt is line s p)

longer_by_one : (line : Bytes) (s p : ℕ) → s ≤ p → p < length line → between s (suc p) line ≡ between s p line ++ get_or line p 0 ∷ []
longer_by_one line s p a b = ap (λ n. between s n line) (sym (add-one p)) ∙ between_more line s p 0 a b

-- one item more
module _ (i : Item) (is : List Item) (line : Bytes) (s : ℕ) (row : List Bool) (says : Row is line s row) where
  abbrev More : ℕ → Type 0
  More p = ReachedAt (is ++ i ∷ []) line s p

  by_one : (p : ℕ) → ReachedAt is line s p → byte_in i.set line p ≡ true → More (suc p)
  by_one p r h =
      let q = and_parts (ltb p (length line)) (has i.set (get_or line p 0)) h in
      let l = ltb-true p (length line) q.0 in
      let a = r.0 in (
        omega arith,
        omega arith,
        subst (Fits (is ++ i ∷ [])) (sym (longer_by_one line s p r.0 l))
            (join_last i is (between s p line) (get_or line p 0 ∷ []) r.2 (inr refl, (q.1, tt))),
      )

  by_more : (p : ℕ) → i.starred ≡ true → More p → byte_in i.set line p ≡ true → More (suc p)
  by_more p star r h =
      let q = and_parts (ltb p (length line)) (has i.set (get_or line p 0)) h in
      let l = ltb-true p (length line) q.0 in
      let f = split_last i is (between s p line) r.2 in
      let a = r.0 in
      let e : between s (suc p) line ≡ f.0 ++ (f.1 ++ get_or line p 0 ∷ []) =
      longer_by_one line s p r.0 l ∙ ap (λ xs. xs ++ get_or line p 0 ∷ []) f.2 ∙ append_assoc f.0 f.1 (get_or line p 0 ∷ []) in (
        omega arith,
        omega arith,
        subst (Fits (is ++ i ∷ [])) (sym e)
            (join_last i is f.0 (f.1 ++ get_or line p 0 ∷ []) f.3 (inl star, within_push i.set f.1 (get_or line p 0) f.4.1 q.1)),
      )

  by_none : (p : ℕ) → i.starred ≡ true → ReachedAt is line s p → More p
  by_none p star r =
      (r.0, r.1, subst (Fits (is ++ i ∷ [])) (append-nil (between s p line)) (join_last i is (between s p line) [] r.2 (inl star, tt)))

  byte_sound : (p : ℕ) → by_byte i line row p ≡ true → More p
  byte_sound zero h = absurd (both_ways false refl h)
  byte_sound (suc p) h =
      let q = and_parts ((i.starred && by_byte i line row p) || reached row p) (byte_in i.set line p) h in
      ⊎_elim
      (λ (t : (i.starred && by_byte i line row p) ≡ true).
      let u = and_parts i.starred (by_byte i line row p) t in by_more p u.0 (byte_sound p u.1) q.1)
      (λ (t : reached row p ≡ true). by_one p ((says p).0 t) q.1)
      (or_cases (i.starred && by_byte i line row p) (reached row p) q.0)

  taken-sound : (p : ℕ) → taken i line row p ≡ true → More p
  taken-sound p h =
      ⊎_elim
      (byte_sound p)
      (λ (t : (i.starred && reached row p) ≡ true).
      let u = and_parts i.starred (reached row p) t in by_none p u.0 ((says p).0 u.1))
      (or_cases (by_byte i line row p) (i.starred && reached row p) h)

  -- the other way: by the last byte of the last piece
  none-taken : (p : ℕ) (a b : Bytes) → s ≤ p → p ≤ length line → between s p line ≡ a ++ b → Fits is a → Piece i b → b ≡ [] → taken i line row p ≡ true
  none-taken p a b l m e f g z =
      let whole : between s p line ≡ a = e ∙ ap (λ xs. a ++ xs) z ∙ append-nil a in
      let r : reached row p ≡ true = (says p).1 (l, m, subst (Fits is) (sym whole) f) in
      ⊎_elim
      (λ (t : i.starred ≡ true). or_right (by_byte i line row p) (i.starred && reached row p) (and_from i.starred (reached row p) t r))
      (λ (t : length b ≡ 1). absurd (omega (arith, ap length z)))
      g.0

  taken_all : (p : ℕ) → More p → taken i line row p ≡ true
  taken_all zero r =
      let f = split_last i is (between s zero line) r.2 in
      let a = r.0 in
      let n : length f.1 ≡ 0 = omega (arith, simp length-append at (ap length f.2), length-between line s zero r.1) in
      none-taken zero f.0 f.1 r.0 r.1 f.2 f.3 f.4 (nil_from_length f.1 n)
  taken_all (suc p) r = go (taken_all p) (snoc f.1)
    where
      f : (a : Bytes) × (b : Bytes) × (between s (suc p) line ≡ a ++ b) × Fits is a × Piece i b
      f = split_last i is (between s (suc p) line) r.2

      go : (More p → taken i line row p ≡ true) → (f.1 ≡ []) ⊎ ((cs : Bytes) × (x : ℕ) × (f.1 ≡ cs ++ x ∷ [])) → taken i line row (suc p) ≡ true
      go ih (inl z) = none-taken (suc p) f.0 f.1 r.0 r.1 f.2 f.3 f.4 z
      go ih (inr w) =
          let cs = w.0 in
          let size : suc p - s ≡ length f.0 + (length cs + 1) =
          sym (length-between line s (suc p) r.1) ∙ (simp length-append at (ap length (f.2 ∙ ap (λ xs. f.0 ++ xs) w.2))) in
          let a : s ≤ p = omega arith in
          let b : p < length line = (let m = r.1 in omega arith) in
          let both = same_from_push (between s p line) (f.0 ++ cs) (get_or line p 0) w.1
          (sym (longer_by_one line s p a b) ∙ f.2 ∙ ap (λ xs. f.0 ++ xs) w.2 ∙ sym (append_assoc f.0 cs (w.1 ∷ []))) in
          let ws = within_parts i.set cs w.1 (subst (Within i.set) w.2 f.4.1) in
          let byte : byte_in i.set line p ≡ true =
          and_from (ltb p (length line)) (has i.set (get_or line p 0)) (lt-ltb p (length line) b) (ap (has i.set) both.1 ∙ ws.1) in
          let from : ((i.starred && by_byte i line row p) || reached row p) ≡ true =
          ⊎_elim
          (λ (star : i.starred ≡ true).
          let more : More p =
          (a, omega arith, subst (Fits (is ++ i ∷ [])) (sym both.0) (join_last i is f.0 cs f.3 (inl star, ws.0))) in
          ⊎_elim
          (λ (t : by_byte i line row p ≡ true). or_left (i.starred && by_byte i line row p) (reached row p) (and_from i.starred (by_byte i line row p) star t))
          (λ (t : (i.starred && reached row p) ≡ true). or_right (i.starred && by_byte i line row p) (reached row p) (and_parts i.starred (reached row p) t).1)
          (or_cases (by_byte i line row p) (i.starred && reached row p) (ih more)))
          (λ (one : length f.1 ≡ 1).
          let n : length cs ≡ 0 = omega (arith, simp length-append at (ap length w.2)) in
          let z = nil_from_length cs n in
          let e : between s p line ≡ f.0 = both.0 ∙ ap (λ xs. f.0 ++ xs) z ∙ append-nil f.0 in
          or_right (i.starred && by_byte i line row p) (reached row p) ((says p).1 (a, omega arith, subst (Fits is) (sym e) f.3)))
          f.4.0 in
          or_left (by_byte i line row (suc p)) (i.starred && reached row (suc p))
          (and_from ((i.starred && by_byte i line row p) || reached row p) (byte_in i.set line p) from byte)

  pub row_step : (next : List Bool) → ((p : ℕ) → reached next p ≡ taken i line row p) → Row (is ++ i ∷ []) line s next
  row_step next same p = ((λ t. taken-sound p (sym (same p) ∙ t)), λ r. same p ∙ taken_all p r)

-- no item, and the start alone
fits_nothing : (run : Bytes) → Fits [] run → run ≡ []
fits_nothing run f = go f.0 f.1 f.2
  where
    go : (ps : List Bytes) → run ≡ joined ps → Pieces [] ps → run ≡ []
    go [] e q = e
    go (p ∷ ps) e q = absurd q

pub row_start : (line : Bytes) (s : ℕ) (row : List Bool) → NoneReached row → s ≤ length line → s < length row → Row [] line s (set row s true)
row_start line s row none l m p =
    ⊎_elim
    (λ (e : p ≡ s).
    let here : reached (set row s true) p ≡ true = ap (reached (set row s true)) e ∙ get_or-set_same row s true false m in
    ((λ t. (omega arith, omega arith, ([], ap (λ n. between s n line) e ∙ between_none line s, tt))), λ r. here))
    (λ (n : p ≡ s → ⊥).
    let other : reached (set row s true) p ≡ false = get_or-set_other row s p true false n ∙ none p in (
      (λ t. absurd (both_ways (reached (set row s true) p) other t)),
      λ r. absurd (let z = ap length (fits_nothing (between s p line) r.2) in let w = length-between line s p r.1 in let a = r.0 in omega arith),
    ))
    (cases_eq p s)

pub span_start : (s : ℕ) (row : List Bool) → NoneReached row → s < length row → (r : Reach) → r.low ≡ s → r.end ≡ s + 1 → Spans (set row s true) r
span_start s row none m r a b = record {
  inside = λ p t.
      ⊎_elim
      (λ (e : p ≡ s). (omega arith, omega arith))
      (λ (n : p ≡ s → ⊥). absurd (both_ways (reached row p) (none p) (sym (get_or-set_other row s p true false n) ∙ t)))
      (cases_eq p s);
  top = (let e : r.end - 1 ≡ s = omega arith in ap (reached (set row s true)) e ∙ get_or-set_same row s true false m);
  filled = λ f p x y. (let e : p ≡ s = omega arith in ap (reached (set row s true)) e ∙ get_or-set_same row s true false m);
}

-- where nothing is reached, more items reach nothing
pub row_stuck : (line : Bytes) (s : ℕ) (row : List Bool) → NoneReached row → (is js : List Item) → Row is line s row → Row (is ++ js) line s row
row_stuck line s row none is [] says = subst (λ xs. Row xs line s row) (sym (append-nil is)) says
row_stuck line s row none is (j ∷ js) says =
    subst (λ xs. Row xs line s row) (append_assoc is (j ∷ []) js)
    (row_stuck line s row none (is ++ j ∷ []) js (row_step j is line s row says row (λ p. none p ∙ sym (taken_none j line row p (below_none j line row p (λ q h. none q) p (omega arith)) (none p)))))

-- the ends that count, and the greatest of them
abbrev pub Ending : List Item → Bool → Bytes → ℕ → ℕ → Type 0
Ending is back line s e = ReachedAt is line s e × (back ≡ true → e ≡ length line)

module _ (is : List Item) (back : Bool) (line : Bytes) (s : ℕ) (inside : s ≤ length line) where
  best_end : (x : Option ℕ) → IsBest (Head is back (drop s line)) x → IsBest (Ending is back line s) (option_map (λ k. s + k) x)
  best_end None h = λ e r. h (e - s) (to_head e r)
    where
      to_head : (e : ℕ) → Ending is back line s e → Head is back (drop s line) (e - s)
      to_head e r =
          let a = r.0.0 in let b = r.0.1 in
          (simp length-drop (omega arith), (λ t. simp length-drop (let q = r.1 t in omega arith)), r.0.2)
  best_end (Some k) h =
      let a : k ≤ length line - s = simp length-drop at h.0.0 in
      let size : s + k - s ≡ k = omega arith in (
        (
          (omega arith, omega arith, subst (λ n. Fits is (take n (drop s line))) (sym size) h.0.2),
          λ t. (let b : k ≡ length line - s = simp length-drop at (h.0.1 t) in omega arith),
        ),
        λ e r. (let q = h.1 (e - s) (to_head e r) in omega arith),
      )
    where
      to_head : (e : ℕ) → Ending is back line s e → Head is back (drop s line) (e - s)
      to_head e r =
          let a = r.0.0 in let b = r.0.1 in
          (simp length-drop (omega arith), (λ t. simp length-drop (let q = r.1 t in omega arith)), r.0.2)

  longest_is : (r : Option ℕ) → IsBest (Ending is back line s) r → r ≡ longest_end is back line s
  longest_is r h = best_one (Ending is back line s) r (longest_end is back line s) h (best_end (longest_run is back (drop s line)) (longest_right is back (drop s line)))

  module _ (row : List Bool) (says : Row is line s row) where
    pub nowhere : NoneReached row → None ≡ longest_end is back line s
    nowhere none = longest_is None (λ e r. both_ways (reached row e) (none e) ((says e).1 r.0))

    module _ (r : Reach) (spans : Spans row r) where
      -- the end anchor is not met
      pub short_of_end : back ≡ true → r.end ≤ length line → None ≡ longest_end is back line s
      short_of_end t l = longest_is None (λ e f. (let q = spans.inside e ((says e).1 f.0) in let z = f.1 t in omega arith))

      pub highest : (back ≡ false) ⊎ (length line < r.end) → r.end ≤ length line + 1 → Some (r.end - 1) ≡ longest_end is back line s
      highest o w =
          let some : r.low < r.end = r.some in
          longest_is (Some (r.end - 1)) (
            (
              (says (r.end - 1)).0 spans.top,
              λ t. ⊎_elim (λ (f : back ≡ false). absurd (both_ways back f t)) (λ (l : length line < r.end). omega arith) o,
            ),
            λ e f. (let q = spans.inside e ((says e).1 f.0) in omega arith),
          )
