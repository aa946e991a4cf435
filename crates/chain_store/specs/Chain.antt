-- A chain of numbers: a table of links says of each number which one follows it.
use Rattle.std.specs.Prelude.{◌≡◌, ℕ, zero, suc, ◌<◌, List, [], ◌∷◌, ◌++◌, length, slice_index, slice_set}
use Rattle.std.specs.List.{range_with_len}

-- n numbers of the chain, from a on
abbrev pub follow : List ℕ → ℕ → ℕ → List ℕ
follow links a zero = []
follow links a (suc n) = a ∷ follow links (slice_index links a) n

-- the chain as a whole: as many numbers as there are links, from 0 on
abbrev pub chain : List ℕ → List ℕ
chain links = follow links 0 (length links)

-- each of the numbers from 0 up to n is followed by the next one, and n itself by 0
abbrev pub in_order : ℕ → List ℕ
in_order n = range_with_len 1 n ++ 0 ∷ []

-- the number that follows p taken out
abbrev pub unlinked : List ℕ → ℕ → List ℕ
unlinked links p = slice_set links p (slice_index links (slice_index links p))

-- x, which was taken out, put in behind q
abbrev pub linked : List ℕ → ℕ → ℕ → List ℕ
linked links x q = slice_set (slice_set links x (slice_index links q)) q x

-- the number that follows p taken out and put in behind q
abbrev pub relinked : List ℕ → ℕ → ℕ → List ℕ
relinked links p q = linked (unlinked links p) (slice_index links p) q

-- every link is a number that has a link
abbrev pub Within : List ℕ → Type 0
Within links = (i : ℕ) → slice_index links i < length links

-- no number stands at two places
abbrev pub Apart : List ℕ → Type 0
Apart xs = (i j : ℕ) → (i < length xs) × (j < length xs) × (slice_index xs i ≡ slice_index xs j) → i ≡ j
