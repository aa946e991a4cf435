-- Reading bytes as a pattern, from the left. There is one refusal, `bad`.
use Rattle.std.specs.Prelude.{ℕ, zero, suc, Bool, true, false, cond, not, ◌&&◌, ◌||◌, List, [], ◌∷◌, length, Some, None, Ok, Err, Option, Result, ◌==◌, nat_lt}
use Rattle.patterns.specs.declared.fault.PatternFault.{PatternFault}
use Rattle.patterns.specs.declared.fault.PatternFault.TheVariants.{Bad}
use Rattle.patterns.specs.Sets.{Set, no_bytes, every, just, with_span, others}
use Rattle.patterns.specs.Items.{Bytes, Item, Pattern}

-- What is read, or the refusal.
abbrev pub Read : Type 0 → Type 0
Read A = Result A PatternFault

abbrev pub bad : {A : Type 0} → Read A
bad = Err Bad

-- Reading on behind what is read: the first refusal stands.
infixl 20 ◌>>=◌
abbrev pub ◌>>=◌ : {A B : Type 0} → Read A → (A → Read B) → Read B
◌>>=◌ (Ok a) next = next a
◌>>=◌ (Err f) next = Err f

-- The bytes that mean something: `.` `*` `[` `]` `\` `^` `$` everywhere, `-` `=` `:` in brackets only.
abbrev pub dot : ℕ
dot = 46

abbrev pub star : ℕ
star = 42

abbrev pub opening : ℕ
opening = 91

abbrev pub closing : ℕ
closing = 93

abbrev pub backslash : ℕ
backslash = 92

abbrev pub caret : ℕ
caret = 94

abbrev pub dollar : ℕ
dollar = 36

abbrev pub dash : ℕ
dash = 45

abbrev pub equals : ℕ
equals = 61

abbrev pub colon : ℕ
colon = 58

abbrev pub special : ℕ → Bool
special b =
    (b == dot) || b == star || b == opening || b == closing || b == backslash || b == caret || b == dollar

abbrev pub begins : ℕ → Bytes → Bool
begins c [] = false
begins c (b ∷ bs) = b == c

-- In brackets: `[.` `[=` and `[:` are kept for classes, which there are none of.
abbrev pub class_mark : ℕ → Bytes → Bool
class_mark b bs = b == opening && (begins dot bs || begins equals bs || begins colon bs)

-- A member that is a byte by itself, and one that is a range, with the bytes behind it.
abbrev pub single : ℕ → Bytes → Read (ℕ × ℕ × Bytes)
single b rest = cond (class_mark b rest) bad (Ok (b, b, rest))

abbrev pub range : ℕ → ℕ → Bytes → Read (ℕ × ℕ × Bytes)
range b e rest = cond (class_mark e rest || nat_lt e b) bad (Ok (b, e, rest))

-- One member, at its first byte: with `-` and a byte other than `]` behind it, it is a range.
abbrev pub member_at : ℕ → Bytes → Read (ℕ × ℕ × Bytes)
member_at b [] = single b []
member_at b (c ∷ []) = single b (c ∷ [])
member_at b (c ∷ e ∷ rest) = cond (c == dash && not (e == closing)) (range b e rest) (single b (c ∷ e ∷ rest))

-- The members up to the closing `]`; where it stands first, `]` is a member. At most `n` of them.
abbrev pub members_at : ℕ → Bool → Set → Bytes → Read (Set × Bytes)
members_at zero first s bs = bad
members_at (suc n) first s [] = bad
members_at (suc n) first s (b ∷ bs) =
    elim (b == closing && not first) [
      | true ↦ Ok (s, bs)
      | false ↦ member_at b bs >>= λ m. members_at n false (with_span m.0 m.1 s) m.2
    ]

-- Every member takes a byte, so there are at most as many as bytes.
abbrev pub inside_at : Bytes → Read (Set × Bytes)
inside_at bs = members_at (length bs) true no_bytes bs

-- What stands behind `[`: a set, or with `^` its complement.
abbrev pub brackets_at : Bytes → Read (Set × Bytes)
brackets_at [] = bad
brackets_at (b ∷ bs) =
    elim (b == caret) [ true ↦ inside_at bs >>= λ r. Ok (others r.0, r.1) | false ↦ inside_at (b ∷ bs) ]

-- What stands behind `\`: a special byte or the delimiter, as itself.
abbrev pub escaped_at : ℕ → Bytes → Read (Set × Bytes)
escaped_at delimiter [] = bad
escaped_at delimiter (b ∷ bs) = cond (special b || b == delimiter) (Ok (just b, bs)) bad

-- A set that is spelled without brackets; `*` is itself where it is the first.
abbrev pub plain_at : ℕ → Bool → ℕ → Bytes → Read (Set × Bytes)
plain_at delimiter first b bs =
    cond (b == dot) (Ok (every, bs))
    (cond (b == backslash) (escaped_at delimiter bs) (cond (b == star && not first) bad (Ok (just b, bs))))

-- The set of one item.
abbrev pub set_at : ℕ → Bool → Bytes → Read (Set × Bytes)
set_at delimiter first [] = bad
set_at delimiter first (b ∷ bs) =
    elim (b == opening) [ true ↦ brackets_at bs | false ↦ plain_at delimiter first b bs ]

-- A set, and the `*` behind it.
abbrev pub star_at : Set → Bytes → Item × Bytes
star_at s [] = (record { set = s; starred = false }, [])
star_at s (b ∷ bs) = cond (b == star) (record { set = s; starred = true }, bs) (record { set = s; starred = false }, b ∷ bs)

abbrev pub item_at : ℕ → Bool → Bytes → Read (Item × Bytes)
item_at delimiter first bs = set_at delimiter first bs >>= λ r. Ok (star_at r.0 r.1)

-- What may stand behind the last item: nothing, or the end anchor.
abbrev pub ending : Bytes → Option Bool
ending [] = Some false
ending (b ∷ []) = cond (b == dollar) (Some true) None
ending (b ∷ c ∷ bs) = None

-- At most `room` items, and whether the end anchor stands behind them.
abbrev pub items_at : ℕ → ℕ → Bool → Bytes → Read (List Item × Bool)
items_at zero delimiter first bs = elim (ending bs) [ Some back ↦ Ok ([], back) | None ↦ bad ]
items_at (suc room) delimiter first bs =
    elim (ending bs) [
      | Some back ↦ Ok ([], back)
      | None ↦ item_at delimiter first bs >>= λ r.
          items_at room delimiter false r.1 >>= λ q. Ok (r.0 ∷ q.0, q.1)
    ]

abbrev pub most_items : ℕ
most_items = 64

abbrev pub body_at : Bool → ℕ → Bytes → Read Pattern
body_at front delimiter bs =
    items_at most_items delimiter true bs >>= λ q. Ok (record { front = front; items = q.0; back = q.1 })

-- The pattern that the bytes of a part spell.
unfoldable pub pattern_of : ℕ → Bytes → Read Pattern
pattern_of delimiter [] = bad
pattern_of delimiter (b ∷ bs) =
    elim (b == caret) [ true ↦ body_at true delimiter bs | false ↦ body_at false delimiter (b ∷ bs) ]
