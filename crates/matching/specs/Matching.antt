-- The match from a place: the first start there or later where a run fits, and there the longest run.
use Rattle.std.specs.Prelude.{◌≡◌, ℕ, suc, ◌+◌, ◌≤◌, max, Bool, true, false, cond, ◌&&◌, ◌||◌, List, [], ◌∷◌, length, drop, Some, None, Ok, Err, Option, Result, nat_lt}
use Rattle.matching.specs.declared.answer.MatchFault.{MatchFault}
use Rattle.matching.specs.declared.answer.MatchFault.TheVariants.{LongLine}
use Rattle.matching.specs.declared.answer.Match.{Match}
use Rattle.patterns.specs.Sets.{Set, has}
use Rattle.patterns.specs.Items.{Bytes, Item, Pattern}
use Rattle.matching.specs.Fitting.{FitsAt}

-- What a match is: it fits, no run fits that starts earlier, and none at its start is longer.
pub record FirstLongest (p : Pattern) (line : Bytes) (from : ℕ) (m : Match) : Type 0 where
  pub behind : from ≤ m.start
  pub fits : FitsAt p line m.start m.end
  pub first : (s e : ℕ) → from ≤ s → FitsAt p line s e → m.start ≤ s
  pub longest : (e : ℕ) → FitsAt p line m.start e → e ≤ m.end

-- The right answer from a place on: such a match, or none where nothing fits.
abbrev pub IsMatch : Pattern → Bytes → ℕ → Option Match → Type 0
IsMatch p line from None = (s e : ℕ) → from ≤ s → FitsAt p line s e → ⊥
IsMatch p line from (Some m) = FirstLongest p line from m

-- The same by computing. First the longest run at the head of some bytes, by its length.
abbrev pub longer : Option ℕ → Option ℕ → Option ℕ
longer None k = k
longer (Some j) None = Some j
longer (Some j) (Some k) = Some (max j k)

abbrev pub further : Option ℕ → Option ℕ
further None = None
further (Some k) = Some (suc k)

-- A byte of the set, and what the items behind it take.
abbrev pub once : Set → (Bytes → Option ℕ) → Bytes → Option ℕ
once s others [] = None
once s others (b ∷ bs) = elim (has s b) [ true ↦ further (others bs) | false ↦ None ]

-- Any number of bytes of the set, and what the items behind them take.
abbrev pub many : Set → (Bytes → Option ℕ) → Bytes → Option ℕ
many s others [] = others []
many s others (b ∷ bs) =
    longer (others (b ∷ bs)) (elim (has s b) [ true ↦ further (many s others bs) | false ↦ None ])

-- Behind the last item, the end anchor wants the line's end.
abbrev pub finish : Bool → Bytes → Option ℕ
finish true [] = Some 0
finish true (b ∷ bs) = None
finish false bs = Some 0

abbrev pub longest_run : List Item → Bool → Bytes → Option ℕ
longest_run [] back bs = finish back bs
longest_run (i ∷ is) back bs =
    elim i.starred [ true ↦ many i.set (longest_run is back) bs | false ↦ once i.set (longest_run is back) bs ]

abbrev pub found_at : ℕ → ℕ → Match
found_at start size = record { start = start; end = start + size }

-- Then the first start, at place `n` or later, `bs` being the bytes from there on. With the front anchor there is no later one.
abbrev pub first_from : Pattern → ℕ → Bytes → Option Match
first_from p n [] = elim (longest_run p.items p.back []) [ Some k ↦ Some (found_at n k) | None ↦ None ]
first_from p n (b ∷ bs) =
    elim (longest_run p.items p.back (b ∷ bs)) [
      | Some k ↦ Some (found_at n k)
      | None ↦ elim p.front [ true ↦ None | false ↦ first_from p (suc n) bs ]
    ]

-- Behind the line's end there is no start, and with the front anchor none behind its start.
abbrev pub no_start : Pattern → Bytes → ℕ → Bool
no_start p line from = nat_lt (length line) from || (p.front && nat_lt 0 from)

unfoldable pub match_from : Pattern → Bytes → ℕ → Option Match
match_from p line from = elim (no_start p line from) [ true ↦ None | false ↦ first_from p from (drop from line) ]

-- The two agree: what is computed is the right answer, and there is no other.
abbrev pub MatchingRight : Pattern → Bytes → ℕ → Type 0
MatchingRight p line from = IsMatch p line from (match_from p line from)

abbrev pub MatchingOne : Pattern → Bytes → ℕ → Type 0
MatchingOne p line from = (x y : Option Match) → IsMatch p line from x → IsMatch p line from y → x ≡ y

-- A search of a line, which may have 255 bytes.
abbrev pub most_bytes : ℕ
most_bytes = 255

abbrev pub find_answer : Pattern → Bytes → ℕ → Result (Option Match) MatchFault
find_answer p line from = cond (nat_lt most_bytes (length line)) (Err LongLine) (Ok (match_from p line from))
