-- The lines that a text becomes, spelled out one after another: what is left of them behind a place.
use Rattle.std.specs.Prelude.{◌≡◌, ℕ, zero, suc, ◌+◌, ◌-◌, ◌<◌, ◌≤◌, Bool, false, cond, ◌&&◌, List, [], ◌∷◌, ◌++◌, length, take, drop, Some, None, Option, IfSome, ◌==◌, nat_le}
use Rattle.std.specs.Borrow.{Bor}
use Rattle.arrayvec.specs.ArrayVec.{ArrayVec}
use Rattle.matching.specs.declared.answer.Match.{Match}
use Rattle.command.specs.declared.replacement.Bit.{Bit}
use Rattle.command.specs.declared.replacement.Bit.TheVariants.{TheMatch, TheByte, TheBreak}
use Rattle.command.specs.Replacements.{bits_of}
use Rattle.command.specs.Said.{Sought, Substitution}
use Rattle.rules.specs.Patterns.{found, matches_from, in_front, filled, replaced}
use Rattle.substituting.specs.declared.cursor.Cursor.{Cursor}
use Rattle.substituting.specs.declared.cursor.Step.{Step}
use Rattle.substituting.specs.declared.cursor.Token.{Token}
use Rattle.substituting.specs.declared.cursor.Token.TheVariants.{Run, Byte, Break}
use Rattle.substituting.specs.Places.{Placed}

-- a line as it is spelled out: none where it is longer than a line may be
abbrev pub line_of : List ℕ → Option (ArrayVec ℕ)
line_of w = cond (nat_le (length w) 255) (Some (record { items = w })) None

-- the same with bytes behind it
abbrev pub lengthened : Option (ArrayVec ℕ) → List ℕ → Option (ArrayVec ℕ)
lengthened None a = None
lengthened (Some line) a = line_of (line.items ++ a)

-- the bytes from a place to another
abbrev pub part : List ℕ → ℕ → ℕ → List ℕ
part t a b = take (b - a) (drop a t)

-- the lines that are still to come, from a place on
unfoldable pub lines_from : Substitution → List ℕ → Cursor → List (List ℕ)
lines_from s t c =
    filled (bits_of c.bits.now) c.run.now
    (replaced (bits_of s.replacement) t c.at (matches_from c.searches s.sought t c.from c.last))

abbrev pub lines_left : Substitution → List ℕ → Option Cursor → List (List ℕ)
lines_left s t None = []
lines_left s t (Some c) = lines_from s t c

-- a token in front of some lines
abbrev pub ahead : Token → List (List ℕ) → List (List ℕ)
ahead (Run a) ls = in_front a.now ls
ahead (Byte b) ls = in_front (b ∷ []) ls
ahead Break ls = [] ∷ ls

-- how many steps may follow
abbrev pub steps_of : ℕ → ℕ → ℕ
steps_of bits zero = 0
steps_of bits (suc n) = suc (bits + steps_of bits n)

unfoldable pub weight_from : Substitution → Cursor → ℕ
weight_from s c = length (bits_of c.bits.now) + steps_of (length (bits_of s.replacement)) c.searches + 1

abbrev pub weight : Substitution → Option Cursor → ℕ
weight s None = 0
weight s (Some c) = weight_from s c

-- the steps

abbrev pub token_of : Bit → Bor (List ℕ) → Token
token_of TheMatch run = Run run
token_of (TheByte b) run = Byte b
token_of TheBreak run = Break

abbrev pub empty_after : Option ℕ → Match → Bool
empty_after None m = false
empty_after (Some e) m = m.start == m.end && e == m.start

-- what a search from a place gives, if one may follow
abbrev pub Found : Sought → List ℕ → Cursor → Option Match → Type 0
Found s t c None = matches_from c.searches s t c.from c.last ≡ []
Found s t c (Some m) = (1 ≤ c.searches) × (found s t c.from ≡ Some m) × (c.from ≤ m.start) × (m.start ≤ m.end) × (m.end ≤ length t)

abbrev pub passing : Cursor → Match → Cursor
passing c m = record {
  bits = c.bits;
  run = c.run;
  at = c.at;
  from = m.start + 1;
  last = Some m.start;
  searches = c.searches - 1;
}

-- the place behind a match that counts
pub record Behind (s : Substitution) (t : List ℕ) (c : Cursor) (m : Match) (n : Cursor) : Type 0 where
  pub bits : n.bits.now ≡ s.replacement
  pub run : n.run.now ≡ part t m.start m.end
  pub at : n.at ≡ m.end
  pub from : n.from ≡ cond (m.start == m.end) (m.start + 1) m.end
  pub last : n.last ≡ Some m.end
  pub searches : n.searches ≡ c.searches - 1

-- what a step does: its token is the first of what is left, and fewer steps are left
pub record Stepped (s : Substitution) (t : List ℕ) (c : Cursor) (r : Step) : Type 0 where
  pub lines : lines_from s t c ≡ ahead r.token (lines_left s t r.next)
  pub placed : IfSome r.next (Placed (length t))
  pub falls : weight s r.next < weight_from s c
