-- A line: a text of at most 255 bytes with no line break (byte 10) in it, and a tag.
-- Bits 0 to 25 of a tag are the marks a to z, bit 26 means chosen, and there are no others.
use Rattle.std.specs.Prelude.{◌≡◌, ℕ, ◌^◌, ◌<◌, ◌≤◌, Bool, true, false, not, ◌&&◌, ◌||◌, List, [], ◌∷◌, length, ◌==◌, nat_le, nat_lt}

pub record Line : Type 0 where
  pub text : List ℕ
  pub tag : ℕ

abbrev pub holds_break : List ℕ → Bool
holds_break [] = false
holds_break (b ∷ bs) = b == 10 || holds_break bs

-- a text that a line may have
abbrev pub fitting : List ℕ → Bool
fitting t = nat_le (length t) 255 && not (holds_break t)

-- each of these texts may be a line's
abbrev pub all_fit : List (List ℕ) → Bool
all_fit [] = true
all_fit (t ∷ ts) = fitting t && all_fit ts

-- a tag with no undefined bit
abbrev pub defined : ℕ → Bool
defined g = nat_lt g (2 ^ 27)

-- what holds of every line in a store
abbrev pub LineFits : Line → Type 0
LineFits l = (length l.text ≤ 255) × (holds_break l.text ≡ false) × (l.tag < 2 ^ 27)

-- what is read where there is no line
abbrev pub blank : Line
blank = record { text = []; tag = 0 }
