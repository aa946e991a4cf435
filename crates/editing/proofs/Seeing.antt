-- What edits of a store come to in the lines that an editor sees.
use Rattle.std.proofs.Common.{◌≡◌, ℕ, suc, ◌-◌, ◌<◌, ◌≤◌, List, ◌++◌, length, take, drop, sym, refl, ap, ◌∙◌, arith}
use Rattle.std.proofs.lemmas.List.{take-append-le, take-take, length-map, length-take-le}
use Rattle.lines.specs.Store.{Store}
use Rattle.rules.specs.Addresses.{to}
use Rattle.rules.specs.Lines.{seen, seen_lines, created}
use Rattle.rules.specs.Pieces.{stay, placed}
use Rattle.editing.specs.Shapes.{without, with_swapped, moved_pieces}
use Rattle.editing.proofs.Placing.{placed_deleted, placed_raised, placed_lowered, map-cut, map_swapped}

-- the lines up to some line, where other lines follow
front_kept : {L : Type 0} (n a : ℕ) (ls more : List L) → n ≤ a → a ≤ length ls → take n (take a ls ++ more) ≡ take n ls
front_kept n a ls more na al =
    let le : n ≤ length (take a ls) = simp (length-take-le a ls al) na in
    take-append-le n (take a ls) more le ∙ take-take n a ls na

pub deleted_lines : (s : Store) (f l : ℕ)
    → seen_lines (without s f l) ≡ placed created (seen_lines s) (stay 1 (f - 1) ++ stay (suc l) (length (seen_lines s)))
deleted_lines s f l = map-cut seen (f - 1) l s.lines ∙ sym (placed_deleted created (seen_lines s) f l (length (seen_lines s)) refl)

pub deleted_front : (s : Store) (f l : ℕ) → f - 1 ≤ length s.lines → take (f - 1) (seen_lines (without s f l)) ≡ take (f - 1) (seen_lines s)
deleted_front s f l le =
    let e = length-map s.lines seen in
    ap (take (f - 1)) (map-cut seen (f - 1) l s.lines)
    ∙ front_kept (f - 1) (f - 1) (seen_lines s) (drop l (seen_lines s)) (omega arith) (omega arith)

pub swapped_front : (s : Store) (n a b c : ℕ) → n ≤ a → a ≤ length s.lines → take n (seen_lines (with_swapped s a b c)) ≡ take n (seen_lines s)
swapped_front s n a b c na al =
    let e = length-map s.lines seen in
    ap (take n) (map_swapped seen a b c s.lines)
    ∙ front_kept n a (seen_lines s) _ na (omega arith)

pub raised_lines : (s : Store) (f l t : ℕ) → 1 ≤ f → t < f
    → seen_lines (with_swapped s t (f - 1) l) ≡ placed created (seen_lines s) (moved_pieces (length (seen_lines s)) (to f l) t)
raised_lines s f l t one le =
    map_swapped seen t (f - 1) l s.lines ∙ sym (placed_raised created (seen_lines s) f l t (length (seen_lines s)) one le refl)

pub lowered_lines : (s : Store) (f l t : ℕ) → 1 ≤ f → f ≤ t
    → seen_lines (with_swapped s (f - 1) l t) ≡ placed created (seen_lines s) (moved_pieces (length (seen_lines s)) (to f l) t)
lowered_lines s f l t one le =
    map_swapped seen (f - 1) l t s.lines ∙ sym (placed_lowered created (seen_lines s) f l t (length (seen_lines s)) one le refl)
