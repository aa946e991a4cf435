-- What pieces make of lines, as lists: lines that stay, pieces one behind the other, and the pieces of `d` and `m`.
use Rattle.std.proofs.Common.{◌≡◌, ℕ, zero, suc, ◌-◌, ◌<◌, ◌≤◌, List, [], ◌∷◌, ◌++◌, map, length, take, drop, sym, refl, ap, ◌∙◌, append_assoc, arith, le-ltb, lt-ltb}
use mathlib.Core.List.{map-append}
use Rattle.std.specs.List.{between}
use Rattle.std.proofs.lemmas.List.{take-map, drop-map}
use Rattle.std.proofs.lemmas.Slice.{between_to_end}
use Rattle.rules.specs.Addresses.{to}
use Rattle.rules.specs.Lines.{picked, from_to}
use Rattle.rules.specs.Pieces.{Piece, old, new, span, stay, placed}
use Rattle.editing.specs.Shapes.{swapped, moved_pieces}

take-nil : {L : Type 0} (n : ℕ) → ◌≡◌ {A = List L} (take n []) []
take-nil zero = refl
take-nil (suc n) = refl

first-and_rest : {L : Type 0} (ls : List L) (a n : ℕ) → take 1 (drop a ls) ++ take n (drop (suc a) ls) ≡ take (suc n) (drop a ls)
first-and_rest [] zero n = take-nil n
first-and_rest [] (suc a) n = take-nil n
first-and_rest (x ∷ ls) zero n = refl
first-and_rest (x ∷ ls) (suc a) n = first-and_rest ls a n

pieces_raised : (f l t n : ℕ) → t < f
    → moved_pieces n (to f l) t ≡ stay 1 t ++ (stay f l ++ (stay (suc t) (f - 1) ++ stay (suc l) n))
pieces_raised f l t n le = cc (lt-ltb t f le)

pieces_lowered : (f l t n : ℕ) → f ≤ t
    → moved_pieces n (to f l) t ≡ stay 1 (f - 1) ++ (stay (suc l) t ++ (stay f l ++ stay (suc t) n))
pieces_lowered f l t n le = cc (le-ltb t f le)

module _ {L : Type 0} (make : List ℕ → L) (ls : List L) where
  pub placed-append : (ps qs : List Piece) → placed make ls (ps ++ qs) ≡ placed make ls ps ++ placed make ls qs
  placed-append [] qs = refl
  placed-append (old n ∷ ps) qs =
      ap (λ (r : List L). picked ls n ++ r) (placed-append ps qs) ∙ sym (append_assoc (picked ls n) (placed make ls ps) (placed make ls qs))
  placed-append (new t ∷ ps) qs = ap (λ (r : List L). make t ∷ r) (placed-append ps qs)

  pub placed-span : (a n : ℕ) → placed make ls (span (suc a) n) ≡ take n (drop a ls)
  placed-span a zero = refl
  placed-span a (suc n) =
      ap (λ (r : List L). take 1 (drop a ls) ++ r) (placed-span (suc a) n) ∙ first-and_rest ls a n

  -- the lines behind line a, up to line b
  pub placed_behind : (a b : ℕ) → placed make ls (stay (suc a) b) ≡ between a b ls
  placed_behind a b =
      let e : suc b - suc a ≡ b - a = omega arith in
      placed-span a (suc b - suc a) ∙ ap (λ n. take n (drop a ls)) e

  -- the lines from f to l
  pub placed-stay : (f l : ℕ) → 1 ≤ f → placed make ls (stay f l) ≡ from_to f l ls
  placed-stay f l one =
      let e : f ≡ suc (f - 1) = omega arith in
      ap (λ k. placed make ls (span k (suc l - f))) e ∙ placed-span (f - 1) (suc l - f)

  -- the first lines
  pub placed_front : (a : ℕ) → placed make ls (stay 1 a) ≡ take a ls
  placed_front a = placed_behind 0 a ∙ ap (λ n. take n ls) (let e : a - 0 ≡ a = omega arith in e)

  -- the last lines
  pub placed_back : (a n : ℕ) → n ≡ length ls → placed make ls (stay (suc a) n) ≡ drop a ls
  placed_back a n e = placed_behind a n ∙ between_to_end ls a n (omega arith)

  placed-range : (f l : ℕ) → 1 ≤ f → placed make ls (stay f l) ≡ between (f - 1) l ls
  placed-range f l one =
      let e : suc l - f ≡ l - (f - 1) = omega arith in
      placed-stay f l one ∙ ap (λ n. take n (drop (f - 1) ls)) e

  -- lines f to l deleted
  pub placed_deleted : (f l n : ℕ) → n ≡ length ls → placed make ls (stay 1 (f - 1) ++ stay (suc l) n) ≡ take (f - 1) ls ++ drop l ls
  placed_deleted f l n e = rw (placed-append (stay 1 (f - 1)) (stay (suc l) n), placed_front (f - 1), placed_back l n e)

  four : (p q r s : List Piece) → placed make ls (p ++ (q ++ (r ++ s))) ≡ placed make ls p ++ (placed make ls q ++ (placed make ls r ++ placed make ls s))
  four p q r s = rw (placed-append p (q ++ (r ++ s)), placed-append q (r ++ s), placed-append r s)

  -- lines f to l moved towards the front, behind line t
  pub placed_raised : (f l t n : ℕ) → 1 ≤ f → t < f → n ≡ length ls → placed make ls (moved_pieces n (to f l) t) ≡ swapped t (f - 1) l ls
  placed_raised f l t n one le e =
      ap (placed make ls) (pieces_raised f l t n le)
      ∙ rw (four (stay 1 t) (stay f l) (stay (suc t) (f - 1)) (stay (suc l) n), placed_front t, placed-range f l one, placed_behind t (f - 1), placed_back l n e)

  -- lines f to l moved towards the end, behind line t
  pub placed_lowered : (f l t n : ℕ) → 1 ≤ f → f ≤ t → n ≡ length ls → placed make ls (moved_pieces n (to f l) t) ≡ swapped (f - 1) l t ls
  placed_lowered f l t n one le e =
      ap (placed make ls) (pieces_lowered f l t n le)
      ∙ rw (four (stay 1 (f - 1)) (stay (suc l) t) (stay f l) (stay (suc t) n), placed_front (f - 1), placed_behind l t, placed-range f l one, placed_back t n e)

-- what is read off each line

module _ {L M : Type 0} (g : L → M) where
  pub map-between : (a b : ℕ) (ls : List L) → map g (between a b ls) ≡ between a b (map g ls)
  map-between a b ls = sym (take-map g (b - a) (drop a ls)) ∙ ap (take (b - a)) (sym (drop-map g a ls))

  pub map-cut : (a b : ℕ) (ls : List L) → map g (take a ls ++ drop b ls) ≡ take a (map g ls) ++ drop b (map g ls)
  map-cut a b ls = rw (map-append g (take a ls) (drop b ls), take-map g a ls, drop-map g b ls)

  pub map_swapped : (a b c : ℕ) (ls : List L) → map g (swapped a b c ls) ≡ swapped a b c (map g ls)
  map_swapped a b c ls =
      rw (
        map-append g (take a ls) (between b c ls ++ (between a b ls ++ drop c ls)),
        map-append g (between b c ls) (between a b ls ++ drop c ls),
        map-append g (between a b ls) (drop c ls),
        map-between b c ls,
        map-between a b ls,
        take-map g a ls,
        drop-map g c ls,
      )
