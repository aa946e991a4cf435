-- Lines changed one at a time: one line of a store gets another tag, and a walk changes the first lines.
use Rattle.std.proofs.Common.{◌≡◌, ℕ, zero, suc, ◌+◌, ◌-◌, ◌<◌, ◌≤◌, List, [], ◌∷◌, map, length, get_or, set, sym, refl, ap, ◌∙◌, add-one, arith}
use Rattle.std.proofs.lemmas.List.{set-get_or, length-map}
use Rattle.lines.specs.Line.{blank}
use Rattle.lines.specs.Store.{Store, with_lines, line_at}
use Rattle.rules.specs.Lines.{Line, seen, seen_lines, on_line}

module _ {L M : Type 0} (s : L → M) (f : M → M) (l d : L) where
  set_on-line : (i : ℕ) (ls : List L) → i < length ls → s l ≡ f (s (get_or ls i d)) → map s (set ls i l) ≡ on_line (suc i) f (map s ls)
  set_on-line i [] h e = refl
  set_on-line zero (x ∷ ls) h e = ap (λ m. m ∷ map s ls) e
  set_on-line (suc i) (x ∷ ls) h e = ap (λ ms. s x ∷ ms) (set_on-line i ls (omega arith) e)

-- a store whose line n gets another tag
abbrev pub tagged : Store → ℕ → ℕ → Store
tagged s n g = with_lines s (set s.lines (n - 1) (record { text = (line_at s n).text; tag = g }))

pub retagged : (s : Store) (n g : ℕ) (f : Line → Line) → 1 ≤ n → n ≤ length s.lines
    → seen (record { text = (line_at s n).text; tag = g }) ≡ f (seen (line_at s n)) → seen_lines (tagged s n g) ≡ on_line n f (seen_lines s)
retagged s n g f one le e =
    let back : suc (n - 1) ≡ n = omega arith in
    set_on-line seen f (record { text = (line_at s n).text; tag = g }) blank (n - 1) s.lines (omega arith) e
    ∙ ap (λ m. on_line m f (seen_lines s)) back

-- what a store sees once line n bears a tag that means f
pub changed : (s x : Store) (n from to : ℕ) (f : Line → Line) → 1 ≤ n → n ≤ length s.lines → x ≡ tagged s n to → from ≡ (line_at s n).tag
    → ((t : List ℕ) → seen (record { text = t; tag = to }) ≡ f (seen (record { text = t; tag = from }))) → seen_lines x ≡ on_line n f (seen_lines s)
changed s x n from to f one le after was means =
    ap seen_lines after
    ∙ retagged s n to f one le (means (line_at s n).text ∙ ap (λ g. f (seen (record { text = (line_at s n).text; tag = g }))) was)

-- what a tag says of a line that bears it
pub told : {A : Type 0} (s : Store) (n from : ℕ) (r : A) (ask : Line → A) → from ≡ (line_at s n).tag
    → ((t : List ℕ) → r ≡ ask (seen (record { text = t; tag = from }))) → r ≡ ask (seen (line_at s n))
told s n from r ask was says =
    says (line_at s n).text ∙ ap (λ g. ask (seen (record { text = (line_at s n).text; tag = g }))) was

pub tagged_same : (s : Store) (n g : ℕ) → g ≡ (line_at s n).tag → s ≡ tagged s n g
tagged_same s n g e =
    ap (with_lines s) (sym (set-get_or s.lines (n - 1) blank))
    ∙ ap (λ h. tagged s n h) (sym e)

-- the first i lines, each replaced by what f makes of it
abbrev pub on_first : {L : Type 0} → ℕ → (L → L) → List L → List L
on_first zero f ls = ls
on_first (suc i) f [] = []
on_first (suc i) f (l ∷ ls) = f l ∷ on_first i f ls

module _ {L : Type 0} (f : L → L) where
  on_next : (i : ℕ) (ls : List L) → on_line (suc i) f (on_first i f ls) ≡ on_first (suc i) f ls
  on_next zero [] = refl
  on_next zero (l ∷ ls) = refl
  on_next (suc i) [] = refl
  on_next (suc i) (l ∷ ls) = ap (λ r. f l ∷ r) (on_next i ls)

  pub on_first_more : (i : ℕ) (ls : List L) → on_line (i + 1) f (on_first i f ls) ≡ on_first (i + 1) f ls
  on_first_more i ls = rw (add-one i) (on_next i ls)

  pub on_first_all : (n : ℕ) (ls : List L) → length ls ≤ n → on_first n f ls ≡ map f ls
  on_first_all zero [] h = refl
  on_first_all zero (l ∷ ls) h = absurd (omega arith)
  on_first_all (suc n) [] h = refl
  on_first_all (suc n) (l ∷ ls) h = ap (λ r. f l ∷ r) (on_first_all n ls (omega arith))

  pub length_on_first : (i : ℕ) (ls : List L) → length (on_first i f ls) ≡ length ls
  length_on_first zero ls = refl
  length_on_first (suc i) [] = refl
  length_on_first (suc i) (l ∷ ls) = ap suc (length_on_first i ls)

-- a walk that has changed the first i lines of a store
pub record Walked (f : Line → Line) (i : ℕ) (s x : Store) : Type 0 where
  pub lines : seen_lines x ≡ on_first i f (seen_lines s)
  pub count : length x.lines ≡ length s.lines
  pub capacity : x.capacity ≡ s.capacity

-- a change of seen lines that keeps their number keeps that of the lines
pub seen-count : (s x : Store) → length (seen_lines x) ≡ length (seen_lines s) → length x.lines ≡ length s.lines
seen-count s x e = sym (length-map x.lines seen) ∙ e ∙ length-map s.lines seen

module _ (f : Line → Line) where
  pub walked_more : (i : ℕ) (s x y : Store) → Walked f i s x → seen_lines y ≡ on_line (i + 1) f (seen_lines x) → y.capacity ≡ x.capacity → Walked f (i + 1) s y
  walked_more i s x y w e c =
      let now : seen_lines y ≡ on_first (i + 1) f (seen_lines s) = e ∙ ap (on_line (i + 1) f) w.lines ∙ on_first_more f i (seen_lines s) in
      record {
        lines = now;
        count = seen-count s y (ap length now ∙ length_on_first f (i + 1) (seen_lines s));
        capacity = c ∙ w.capacity;
      }

  pub walked_all : (i : ℕ) (s x : Store) → Walked f i s x → length s.lines ≤ i → seen_lines x ≡ map f (seen_lines s)
  walked_all i s x w h = w.lines ∙ on_first_all f i (seen_lines s) (rw (length-map s.lines seen) h)
