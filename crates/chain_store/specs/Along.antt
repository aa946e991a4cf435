-- The lines along a chain, when a slot is written and when numbers are put in and taken out.
use Rattle.std.specs.Prelude.{◌≡◌, ℕ, ◌+◌, ◌-◌, ◌<◌, ◌≤◌, List, ◌∷◌, ◌++◌, map, length, get_or, take, drop, set, slice_index, slice_index_or, slice_set}
use Rattle.std.proofs.Common.{sym, ap, ◌∙◌, ⊎_elim, arith}
use Rattle.std.proofs.lemmas.List.{ext_get_or, length-map, length-set, get_or-map, map-append, take-map, drop-map, get_or-set_same, get_or-set_other}
use Rattle.std.proofs.lemmas.Bool.{cases_eq}
use Rattle.lines.specs.Line.{Line, blank}
use Rattle.chain_store.specs.Chain.{chain, relinked}
use Rattle.chain_store.specs.Lines.{line_numbers, line_in, lines_along}
use Rattle.chain_store.specs.Kept.{Kept, slot-number, slot_apart, length_numbers, number_at}
use Rattle.chain_store.specs.Numbers.{put-number, put_numbers, remove_numbers}

map-inserted : {X Y : Type 0} (f : X → Y) (xs : List X) (n : ℕ) (x : X) → map f (take n xs ++ x ∷ drop n xs) ≡ take n (map f xs) ++ f x ∷ drop n (map f xs)
map-inserted f xs n x = simp (map-append, take-map, drop-map)

map_removed : {X Y : Type 0} (f : X → Y) (xs : List X) (n m : ℕ) → map f (take n xs ++ drop m xs) ≡ take n (map f xs) ++ drop m (map f xs)
map_removed f xs n m = simp (map-append, take-map, drop-map)

module _ {ns : List ℕ} {cap count : ℕ} (kept : Kept ns cap count) (ls : List Line) (all : length ls ≡ cap) where
  pub length-lines : length (lines_along ns ls count) ≡ count
  length-lines = length-map (line_numbers ns count) (line_in ls) ∙ length_numbers kept

  -- what stands at each place, whatever lines the slots hold
  line_at : (ms : List Line) (k : ℕ) → k < count → slice_index_or (lines_along ns ms count) k blank ≡ slice_index_or ms (slice_index (chain ns) (k + 1) - 2) blank
  line_at ms k h =
      let l = length_numbers kept in
      get_or-map (line_in ms) (line_numbers ns count) k 0 blank (omega arith) ∙ ap (line_in ms) (number_at kept k h)

  -- line n is read and written by its slot
  module _ (n : ℕ) (one : 1 ≤ n) (hn : n ≤ count) where
    pub slot-within : (2 ≤ slice_index (chain ns) n) × (slice_index (chain ns) n - 2 < cap)
    slot-within =
        let r = kept.room in
        let s = slot-number kept n (one, omega arith, λ e. omega arith) in
        (s.0, omega arith)

    pub line_in_lem : get_or (lines_along ns ls count) (n - 1) blank ≡ slice_index_or ls (slice_index (chain ns) n - 2) blank
    line_in_lem = let e : n - 1 + 1 ≡ n = omega arith in line_at ls (n - 1) (omega arith) ∙ ap (λ (k : ℕ). get_or ls (slice_index (chain ns) k - 2) blank) e

    pub line_set : (l : Line) → lines_along ns (slice_set ls (slice_index (chain ns) n - 2) l) count ≡ slice_set (lines_along ns ls count) (n - 1) l
    line_set l =
        ext_get_or blank _ _ (simp (length-set, length-map)) λ k h.
        let r = kept.room in
        let c = length-lines in
        let b : k < count = omega (arith, length-map (line_numbers ns count) (line_in (slice_set ls (slice_index (chain ns) n - 2) l)), length_numbers kept) in
        line_at (slice_set ls (slice_index (chain ns) n - 2) l) k b ∙ ⊎_elim
        (λ (is : k ≡ n - 1).
        let e : k + 1 ≡ n = omega arith in
        let w = slot-within.1 in
        rw (e, is) (get_or-set_same ls (slice_index (chain ns) n - 2) l blank (omega arith) ∙ sym (get_or-set_same (lines_along ns ls count) (n - 1) l blank (omega arith))))
        (λ (ne : k ≡ n - 1 → ⊥).
        get_or-set_other ls (slice_index (chain ns) n - 2) (slice_index (chain ns) (k + 1) - 2) l blank
        (λ z. (let u = slot_apart kept (k + 1) n (omega arith, omega arith, λ v. omega arith) (one, omega arith, λ v. omega arith) z in omega arith))
        ∙ sym (line_at ls k b) ∙ sym (get_or-set_other (lines_along ns ls count) (n - 1) k l blank ne))
        (cases_eq k (n - 1))

  -- a line goes into the first free slot
  module _ (free : count < cap) (x : ℕ) (first : x ≡ slice_index (chain ns) (count + 2)) where
    free-within : (2 ≤ x) × (x - 2 < cap)
    free-within = let s = slot-number kept (count + 2) (omega arith, omega arith, λ e. omega arith) in (omega arith, omega arith)

    free-set : (l : Line) → lines_along ns (slice_set ls (x - 2) l) count ≡ lines_along ns ls count
    free-set l =
        ext_get_or blank _ _ (simp length-map) λ k h.
        let b : k < count = omega (arith, length-map (line_numbers ns count) (line_in (slice_set ls (x - 2) l)), length_numbers kept) in
        line_at (slice_set ls (x - 2) l) k b
        ∙ get_or-set_other ls (x - 2) (slice_index (chain ns) (k + 1) - 2) l blank
        (λ z. (let u = slot_apart kept (k + 1) (count + 2) (omega arith, omega arith, λ v. omega arith) (omega arith, omega arith, λ v. omega arith) (omega arith) in omega arith))
        ∙ sym (line_at ls k b)

-- the lines after a put
module _ {ns : List ℕ} {cap count : ℕ} (kept : Kept ns cap count) (ls : List Line) (all : length ls ≡ cap) (n q : ℕ) (hn : n ≤ count) (free : count < cap) (to : get_or (chain ns) n 0 ≡ q) where
  pub put-within : (2 ≤ slice_index ns 1) × (slice_index ns 1 - 2 < cap)
  put-within = free-within kept ls all free (slice_index ns 1) (put-number kept n q hn free to)

  pub put-lines : (l : Line) → lines_along (relinked ns 1 q) (slice_set ls (slice_index ns 1 - 2) l) (count + 1) ≡ take n (lines_along ns ls count) ++ l ∷ drop n (lines_along ns ls count)
  put-lines l =
      let ms = set ls (slice_index ns 1 - 2) l in
      let w = put-within.1 in
      let same : lines_along ns ms count ≡ lines_along ns ls count = free-set kept ls all free (slice_index ns 1) (put-number kept n q hn free to) l in
      let here : line_in ms (slice_index ns 1) ≡ l = get_or-set_same ls (slice_index ns 1 - 2) l blank (omega arith) in
      ap (map (line_in ms)) (put_numbers kept n q hn free to)
      ∙ map-inserted (line_in ms) (line_numbers ns count) n (slice_index ns 1)
      ∙ ap (λ (h : Line). take n (lines_along ns ms count) ++ h ∷ drop n (lines_along ns ms count)) here
      ∙ ap (λ (hs : List Line). take n hs ++ l ∷ drop n hs) same

-- the lines after a remove
pub remove-lines : {ns : List ℕ} {cap count : ℕ} (kept : Kept ns cap count) (ls : List Line) (n p : ℕ) → 1 ≤ n → n ≤ count → slice_index (chain ns) (n - 1) ≡ p
    → lines_along (relinked ns p 1) ls (count - 1) ≡ take (n - 1) (lines_along ns ls count) ++ drop n (lines_along ns ls count)
remove-lines {ns} {cap} {count} kept ls n p one hn from =
    ap (map (line_in ls)) (remove_numbers kept n p one hn from) ∙ map_removed (line_in ls) (line_numbers ns count) (n - 1) n
