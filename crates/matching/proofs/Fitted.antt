-- The longest run at the head of some bytes: what `longest_run` computes is the longest that fits.
use Rattle.std.proofs.Common.{◌≡◌, ℕ, zero, suc, ◌≤◌, max, Bool, true, false, ◌⊎◌, List, [], ◌∷◌, ◌++◌, length, take, Some, None, Option, sym, refl, ap, subst, inl, inr, suc-le-suc, le_trans, le_of_suc-le-suc, arith}
use Rattle.std.proofs.lemmas.Bool.{both_ways}
use Rattle.patterns.specs.Sets.{Set, has}
use Rattle.patterns.specs.Items.{Bytes, Item}
use Rattle.matching.specs.Fitting.{Within, Pieces, joined, Fits}
use Rattle.matching.specs.Matching.{longer, further, once, many, finish, longest_run}

-- the greatest of the numbers with a property, if there is one
abbrev pub IsBest : (ℕ → Type 0) → Option ℕ → Type 0
IsBest P None = (k : ℕ) → P k → ⊥
IsBest P (Some m) = P m × ((k : ℕ) → P k → k ≤ m)

-- there is only one
pub best_one : (P : ℕ → Type 0) (x y : Option ℕ) → IsBest P x → IsBest P y → x ≡ y
best_one P None None h g = refl
best_one P None (Some n) h g = absurd (h n g.0)
best_one P (Some m) None h g = absurd (g m h.0)
best_one P (Some m) (Some n) h g = ap Some (omega (arith, h.1 n g.0, g.1 m h.0))

pub best_like : (P Q : ℕ → Type 0) → ((k : ℕ) → P k → Q k) → ((k : ℕ) → Q k → P k) → (x : Option ℕ) → IsBest P x → IsBest Q x
best_like P Q f g None h = λ k q. h k (g k q)
best_like P Q f g (Some m) h = (f m h.0, λ k q. h.1 k (g k q))

abbrev Or : (ℕ → Type 0) → (ℕ → Type 0) → ℕ → Type 0
Or P Q k = P k ⊎ Q k

max_one : (P Q : ℕ → Type 0) (j k : ℕ) → P j → Q k → Or P Q (max j k)
max_one P Q j k p q = go (max j k) (max_is j k)
  where
    max_is : (a b : ℕ) → (max a b ≡ a) ⊎ (max a b ≡ b)
    max_is a b = grind arith

    go : (m : ℕ) → (m ≡ j) ⊎ (m ≡ k) → Or P Q m
    go m (inl e) = inl (subst P (sym e) p)
    go m (inr e) = inr (subst Q (sym e) q)

max_left : (j k : ℕ) → j ≤ max j k
max_left j k = omega arith

max_right : (j k : ℕ) → k ≤ max j k
max_right j k = omega arith

best_or : (P Q : ℕ → Type 0) (x y : Option ℕ) → IsBest P x → IsBest Q y → IsBest (Or P Q) (longer x y)
best_or P Q None None h g = λ k. elim [ inl p ↦ h k p | inr q ↦ g k q ]
best_or P Q None (Some n) h g = (inr g.0, λ k. elim [ inl p ↦ absurd (h k p) | inr q ↦ g.1 k q ])
best_or P Q (Some m) None h g = (inl h.0, λ k. elim [ inl p ↦ h.1 k p | inr q ↦ absurd (g k q) ])
best_or P Q (Some m) (Some n) h g = (
  max_one P Q m n h.0 g.0,
  λ k. elim [ inl p ↦ le_trans (h.1 k p) (max_left m n) | inr q ↦ le_trans (g.1 k q) (max_right m n) ],
)

-- one byte more, if it passes
abbrev Shift : Bool → (ℕ → Type 0) → ℕ → Type 0
Shift passes P zero = ⊥
Shift passes P (suc k) = (passes ≡ true) × P k

abbrev shifted : Bool → Option ℕ → Option ℕ
shifted passes x = elim passes [ true ↦ further x | false ↦ None ]

best_shift : (passes : Bool) (P : ℕ → Type 0) (x : Option ℕ) → IsBest P x → IsBest (Shift passes P) (shifted passes x)
best_shift true P None h = elim [ zero ↦ λ e. e | suc k ↦ λ e. h k e.1 ]
best_shift true P (Some n) h = ((refl, h.0), elim [ zero ↦ λ e. absurd e | suc k ↦ λ e. suc-le-suc (h.1 k e.1) ])
best_shift false P None h = elim [ zero ↦ λ e. e | suc k ↦ λ e. both_ways false refl e.0 ]
best_shift false P (Some n) h = elim [ zero ↦ λ e. e | suc k ↦ λ e. both_ways false refl e.0 ]

-- which lengths the definition looks at, in its own shape
abbrev Many : Set → (Bytes → ℕ → Type 0) → Bytes → ℕ → Type 0
Many s K [] k = K [] k
Many s K (b ∷ bs) k = Or (K (b ∷ bs)) (Shift (has s b) (Many s K bs)) k

abbrev Once : Set → (Bytes → ℕ → Type 0) → Bytes → ℕ → Type 0
Once s K [] k = ⊥
Once s K (b ∷ bs) k = Shift (has s b) (K bs) k

abbrev One : Bool → Set → (Bytes → ℕ → Type 0) → Bytes → ℕ → Type 0
One true s K bs k = Many s K bs k
One false s K bs k = Once s K bs k

abbrev End : Bool → Bytes → ℕ → Type 0
End true [] k = k ≡ 0
End true (b ∷ bs) k = ⊥
End false bs k = k ≡ 0

abbrev Takes : List Item → Bool → Bytes → ℕ → Type 0
Takes [] back bs k = End back bs k
Takes (i ∷ is) back bs k = One i.starred i.set (Takes is back) bs k

module _ (s : Set) (K : Bytes → ℕ → Type 0) (f : Bytes → Option ℕ) (h : (bs : Bytes) → IsBest (K bs) (f bs)) where
  best_many : (bs : Bytes) → IsBest (Many s K bs) (many s f bs)
  best_many [] = h []
  best_many (b ∷ bs) =
      best_or (K (b ∷ bs)) (Shift (has s b) (Many s K bs)) (f (b ∷ bs)) (shifted (has s b) (many s f bs))
      (h (b ∷ bs)) (best_shift (has s b) (Many s K bs) (many s f bs) (best_many bs))

  best_once : (bs : Bytes) → IsBest (Once s K bs) (once s f bs)
  best_once [] = λ k e. e
  best_once (b ∷ bs) = best_shift (has s b) (K bs) (f bs) (h bs)

  best_item : (starred : Bool) (bs : Bytes) → IsBest (One starred s K bs) (elim starred [ true ↦ many s f bs | false ↦ once s f bs ])
  best_item true bs = best_many bs
  best_item false bs = best_once bs

best_end : (back : Bool) (bs : Bytes) → IsBest (End back bs) (finish back bs)
best_end true [] = (refl, λ k e. omega arith)
best_end true (b ∷ bs) = λ k e. e
best_end false bs = (refl, λ k e. omega arith)

best_takes : (is : List Item) (back : Bool) (bs : Bytes) → IsBest (Takes is back bs) (longest_run is back bs)
best_takes [] back bs = best_end back bs
best_takes (i ∷ is) back bs = best_item i.set (Takes is back) (longest_run is back) (best_takes is back) i.starred bs

-- those lengths are the ones that fit
abbrev pub Head : List Item → Bool → Bytes → ℕ → Type 0
Head is back bs k = (k ≤ length bs) × (back ≡ true → k ≡ length bs) × Fits is (take k bs)

head_end : (back : Bool) (bs : Bytes) (k : ℕ) → End back bs k → Head [] back bs k
head_end true [] k e = (omega arith, (λ t. e), ([], ap (λ n. take n []) e, tt))
head_end true (b ∷ bs) k e = absurd e
head_end false bs k e = (omega arith, (λ t. absurd (both_ways false refl t)), ([], ap (λ n. take n bs) e, tt))

module _ (i : Item) (is : List Item) where
  none_in_front : (run : Bytes) → i.starred ≡ true → Fits is run → Fits (i ∷ is) run
  none_in_front run s f = ([] ∷ f.0, f.1, ((inl s, tt), f.2))

  one_in_front : (b : ℕ) (run : Bytes) → has i.set b ≡ true → Fits is run → Fits (i ∷ is) (b ∷ run)
  one_in_front b run m f = ((b ∷ []) ∷ f.0, ap (λ r. b ∷ r) f.1, ((inr refl, (m, tt)), f.2))

  more_in_front : (b : ℕ) (run : Bytes) → i.starred ≡ true → has i.set b ≡ true → Fits (i ∷ is) run → Fits (i ∷ is) (b ∷ run)
  more_in_front b run s m f = go f.0 f.1 f.2
    where
      go : (ps : List Bytes) → run ≡ joined ps → Pieces (i ∷ is) ps → Fits (i ∷ is) (b ∷ run)
      go [] e q = absurd q
      go (p ∷ ps) e q = ((b ∷ p) ∷ ps, ap (λ r. b ∷ r) e, ((inl s, (m, q.0.1)), q.1))

module _ (i : Item) (is : List Item) (back : Bool) (K : Bytes → ℕ → Type 0) (h : (bs : Bytes) (k : ℕ) → K bs k → Head is back bs k) where
  head_many : i.starred ≡ true → (bs : Bytes) (k : ℕ) → Many i.set K bs k → Head (i ∷ is) back bs k
  head_many s [] k t = let g = h [] k t in (g.0, g.1, none_in_front i is (take k []) s g.2)
  head_many s (b ∷ bs) k (inl t) = let g = h (b ∷ bs) k t in (g.0, g.1, none_in_front i is (take k (b ∷ bs)) s g.2)
  head_many s (b ∷ bs) zero (inr t) = absurd t
  head_many s (b ∷ bs) (suc k) (inr t) =
      let g = head_many s bs k t.1 in (suc-le-suc g.0, (λ u. ap suc (g.1 u)), more_in_front i is b (take k bs) s t.0 g.2)

  head_once : (bs : Bytes) (k : ℕ) → Once i.set K bs k → Head (i ∷ is) back bs k
  head_once [] k t = absurd t
  head_once (b ∷ bs) zero t = absurd t
  head_once (b ∷ bs) (suc k) t =
      let g = h bs k t.1 in (suc-le-suc g.0, (λ u. ap suc (g.1 u)), one_in_front i is b (take k bs) t.0 g.2)

  head_item : (starred : Bool) → i.starred ≡ starred → (bs : Bytes) (k : ℕ) → One starred i.set K bs k → Head (i ∷ is) back bs k
  head_item true e bs k t = head_many e bs k t
  head_item false e bs k t = head_once bs k t

head_of : (is : List Item) (back : Bool) (bs : Bytes) (k : ℕ) → Takes is back bs k → Head is back bs k
head_of [] back bs k t = head_end back bs k t
head_of (i ∷ is) back bs k t = head_item i is back (Takes is back) (head_of is back) i.starred refl bs k t

-- and back
end_of : (back : Bool) (bs : Bytes) (k : ℕ) → k ≤ length bs → (back ≡ true → k ≡ length bs) → take k bs ≡ [] → End back bs k
end_of true [] k h c e = c refl
end_of true (b ∷ bs) zero h c e = absurd (omega (arith, c refl))
end_of true (b ∷ bs) (suc k) h c e = let z : ◌≡◌ {A = ℕ} 0 1 = cc in absurd (omega arith)
end_of false bs zero h c e = refl
end_of false [] (suc k) h c e = absurd (omega (arith, h))
end_of false (b ∷ bs) (suc k) h c e = let z : ◌≡◌ {A = ℕ} 0 1 = cc in absurd (omega arith)

pub first_of : {x y : ℕ} {xs ys : Bytes} → (x ∷ xs) ≡ (y ∷ ys) → x ≡ y
first_of e = cc

pub rest_of : {x y : ℕ} {xs ys : Bytes} → (x ∷ xs) ≡ (y ∷ ys) → xs ≡ ys
rest_of e = cc

pub no-cons : {x : ℕ} {xs : Bytes} → [] ≡ (x ∷ xs) → ⊥
no-cons e = let z : ◌≡◌ {A = ℕ} 0 1 = cc in omega arith

module _ (s : Set) (is : List Item) (back : Bool) (K : Bytes → ℕ → Type 0) (h : (bs : Bytes) (k : ℕ) → Head is back bs k → K bs k) where
  many_none : (bs : Bytes) (k : ℕ) → Head is back bs k → Many s K bs k
  many_none [] k g = h [] k g
  many_none (b ∷ bs) k g = inl (h (b ∷ bs) k g)

  -- by the bytes of the first piece
  many_of : (p : Bytes) (ps : List Bytes) (bs : Bytes) (k : ℕ) → Within s p → Pieces is ps
      → k ≤ length bs → (back ≡ true → k ≡ length bs) → take k bs ≡ p ++ joined ps → Many s K bs k
  many_of [] ps bs k w q l e x = many_none bs k (l, e, (ps, x, q))
  many_of (a ∷ p) ps bs zero w q l e x = absurd (no-cons x)
  many_of (a ∷ p) ps [] (suc k) w q l e x = absurd (no-cons x)
  many_of (a ∷ p) ps (b ∷ bs) (suc k) w q l e x =
      inr (
        subst (λ y. has s y ≡ true) (sym (first_of x)) w.0,
        many_of p ps bs k w.1 q (le_of_suc-le-suc l) (λ t. omega (arith, e t)) (rest_of x),
      )

  once_of : (p : Bytes) (ps : List Bytes) (bs : Bytes) (k : ℕ) → length p ≡ 1 → Within s p → Pieces is ps
      → k ≤ length bs → (back ≡ true → k ≡ length bs) → take k bs ≡ p ++ joined ps → Once s K bs k
  once_of [] ps bs k n w q l e x = absurd (omega (arith, n))
  once_of (a ∷ a' ∷ p) ps bs k n w q l e x = absurd (omega (arith, n))
  once_of (a ∷ []) ps bs zero n w q l e x = absurd (no-cons x)
  once_of (a ∷ []) ps [] (suc k) n w q l e x = absurd (no-cons x)
  once_of (a ∷ []) ps (b ∷ bs) (suc k) n w q l e x = (
    subst (λ y. has s y ≡ true) (sym (first_of x)) w.0,
    h bs k (le_of_suc-le-suc l, (λ t. omega (arith, e t)), (ps, rest_of x, q)),
  )

  item_of : (starred : Bool) (p : Bytes) (ps : List Bytes) (bs : Bytes) (k : ℕ) → ((starred ≡ true) ⊎ (length p ≡ 1)) → Within s p → Pieces is ps
      → k ≤ length bs → (back ≡ true → k ≡ length bs) → take k bs ≡ p ++ joined ps → One starred s K bs k
  item_of true p ps bs k n w q l e x = many_of p ps bs k w q l e x
  item_of false p ps bs k (inl n) w q l e x = absurd (both_ways false refl n)
  item_of false p ps bs k (inr n) w q l e x = once_of p ps bs k n w q l e x

takes_of : (is : List Item) (back : Bool) (bs : Bytes) (k : ℕ) → Head is back bs k → Takes is back bs k
takes_of [] back bs k g = go g.2.0 g.2.1 g.2.2
  where
    go : (ps : List Bytes) → take k bs ≡ joined ps → Pieces [] ps → End back bs k
    go [] e q = end_of back bs k g.0 g.1 e
    go (p ∷ ps) e q = absurd q
takes_of (i ∷ is) back bs k g = go (takes_of is back) g.2.0 g.2.1 g.2.2
  where
    go : ((xs : Bytes) (n : ℕ) → Head is back xs n → Takes is back xs n) → (ps : List Bytes) → take k bs ≡ joined ps → Pieces (i ∷ is) ps → Takes (i ∷ is) back bs k
    go ih [] e q = absurd q
    go ih (p ∷ ps) e q = item_of i.set is back (Takes is back) ih i.starred p ps bs k q.0.0 q.0.1 q.1 g.0 g.1 e

pub longest_right : (is : List Item) (back : Bool) (bs : Bytes) → IsBest (Head is back bs) (longest_run is back bs)
longest_right is back bs =
    best_like (Takes is back bs) (Head is back bs) (head_of is back bs) (takes_of is back bs) (longest_run is back bs) (best_takes is back bs)
