-- Lines that stay: whether they are there, and so how long a text becomes.
use Rattle.std.proofs.Common.{◌≡◌, ℕ, zero, suc, ◌+◌, ◌-◌, ◌≤◌, List, [], ◌∷◌, ◌++◌, length, take, drop, refl, ap, ◌∙◌, arith}
use Rattle.std.proofs.lemmas.List.{length-append, length-drop}
use Rattle.rules.specs.Lines.{picked}
use Rattle.rules.specs.Pieces.{Piece, old, new, span, stay, news, placed, last_new}

-- each line that stays is there, in a text of n lines
abbrev pub Present : ℕ → List Piece → Type 0
Present n [] = Unit {0}
Present n (old k ∷ ps) = (1 ≤ k) × (k ≤ n) × Present n ps
Present n (new t ∷ ps) = Present n ps

pub present-append : (n : ℕ) (ps qs : List Piece) → Present n ps → Present n qs → Present n (ps ++ qs)
present-append n [] qs g h = h
present-append n (old k ∷ ps) qs g h = (g.0, g.1, present-append n ps qs g.2 h)
present-append n (new t ∷ ps) qs g h = present-append n ps qs g h

present-span : (n f m : ℕ) → 1 ≤ f → f + m ≤ suc n → Present n (span f m)
present-span n f zero a b = tt
present-span n f (suc m) a b = (a, omega arith, present-span n (suc f) m (omega arith) (omega arith))

pub present-stay : (n f l : ℕ) → 1 ≤ f → l ≤ n → Present n (stay f l)
present-stay n f l a b = by (suc l - f) refl
  where
    by : (m : ℕ) → m ≡ suc l - f → Present n (span f m)
    by zero e = tt
    by (suc m) e = present-span n f (suc m) a (omega arith)

pub present-news : (n : ℕ) (ts : List (List ℕ)) → Present n (news ts)
present-news n [] = tt
present-news n (t ∷ ts) = present-news n ts

-- lengths

length-span : (f n : ℕ) → length (span f n) ≡ n
length-span f zero = refl
length-span f (suc n) = ap suc (length-span (suc f) n)

pub length-stay : (f l : ℕ) → length (stay f l) ≡ suc l - f
length-stay f l = length-span f (suc l - f)

module _ {L : Type 0} where
  length_first : (ls : List L) → 1 ≤ length ls → length (take 1 ls) ≡ 1
  length_first [] h = absurd (omega arith)
  length_first (l ∷ ls) h = refl

  length-picked : (ls : List L) (n : ℕ) → 1 ≤ n → n ≤ length ls → length (picked ls n) ≡ 1
  length-picked ls zero a b = absurd (omega arith)
  length-picked ls (suc n) a b = length_first (drop n ls) (omega (arith, length-drop n ls))

  -- each piece is a line
  pub length-placed : (make : List ℕ → L) (ls : List L) (ps : List Piece) → Present (length ls) ps → length (placed make ls ps) ≡ length ps
  length-placed make ls [] h = refl
  length-placed make ls (old n ∷ ps) h =
      length-append (picked ls n) (placed make ls ps) ∙ omega (arith, length-picked ls n h.0 h.1, length-placed make ls ps h.2)
  length-placed make ls (new t ∷ ps) h = ap suc (length-placed make ls ps h)

pub last_new-within : (n best : ℕ) (ps : List Piece) → best ≤ n → last_new n best ps ≤ n + length ps
last_new-within n best [] h = omega arith
last_new-within n best (old k ∷ ps) h = omega (arith, last_new-within (suc n) best ps (omega arith))
last_new-within n best (new t ∷ ps) h = omega (arith, last_new-within (suc n) (suc n) ps (omega arith))
