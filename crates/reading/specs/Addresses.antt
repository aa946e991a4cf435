-- How addresses are read: numbers, offsets, bases, one address, and the addresses in front of a command.
use Rattle.std.specs.Prelude.{ℕ, zero, suc, ◌+◌, ◌-◌, ◌*◌, Bool, true, false, cond, not, ◌&&◌, ◌||◌, [], ◌∷◌, length, Some, None, Ok, Err, Option, ◌==◌, nat_le}
use Rattle.command.specs.declared.fault.Fault.TheVariants.{BadCommand, BadAddress}
use Rattle.command.specs.Marks.{Mark, mark_of}
use Rattle.command.specs.Said.{Bytes, Base, at_current, at_last, at_number, at_mark, at_match, Address, Addresses, no_address, one_address, two_addresses}
use Rattle.reading.specs.Read.{Part, ◌>>=◌, when, begins}
use Rattle.reading.specs.Parts.{pattern_at}

abbrev pub dot : ℕ
dot = 46

abbrev pub dollar : ℕ
dollar = 36

abbrev pub quote : ℕ
quote = 39

abbrev pub slash : ℕ
slash = 47

abbrev pub plus : ℕ
plus = 43

abbrev pub minus : ℕ
minus = 45

abbrev pub comma : ℕ
comma = 44

abbrev pub is_digit : ℕ → Bool
is_digit b = nat_le 48 b && nat_le b 57

abbrev pub most_number : ℕ
most_number = 65535

-- The digit at the front, and the bytes behind it.
unfoldable pub digit_at : Bytes → Option (ℕ × Bytes)
digit_at [] = None
digit_at (b ∷ bs) = cond (is_digit b) (Some (b - 48, bs)) None

-- What the digits at the front make of a value read so far, and the bytes behind them.
abbrev pub digits_at : ℕ → Bytes → ℕ × Bytes
digits_at v [] = (v, [])
digits_at v (b ∷ bs) = elim (is_digit b) [ true ↦ digits_at (v * 10 + (b - 48)) bs | false ↦ (v, b ∷ bs) ]

-- A number has a digit at least, and is not over the greatest.
unfoldable pub number_at : Bytes → Part ℕ
number_at bs =
    let r : ℕ × Bytes = digits_at 0 bs in
    when (begins is_digit bs && nat_le r.0 most_number) BadAddress (Ok r)

abbrev pub is_sign : ℕ → Bool
is_sign b = b == plus || b == minus

-- An address with one more offset.
abbrev pub moved : ℕ → ℕ → Address → Address
moved sign n a =
    cond (sign == plus)
    (record { base = a.base; ahead = a.ahead + n; back = a.back })
    (record { base = a.base; ahead = a.ahead; back = a.back + n })

-- Any number of offsets, each a sign and a number. There are not more of them than bytes.
unfoldable pub offsets_at : ℕ → Address → Bytes → Part Address
offsets_at zero a bs = Ok (a, bs)
offsets_at (suc n) a [] = Ok (a, [])
offsets_at (suc n) a (b ∷ bs) =
    elim (is_sign b)
    [ true ↦ number_at bs >>= λ r. offsets_at n (moved b r.0 a) r.1 | false ↦ Ok (a, b ∷ bs) ]

-- A letter that names a mark.
unfoldable pub mark_at : Bytes → Part Mark
mark_at [] = Err BadCommand
mark_at (b ∷ bs) = elim (mark_of b) [ Some m ↦ Ok (m, bs) | None ↦ Err BadCommand ]

-- What an address begins with. Offsets alone count from the current line.
unfoldable pub base_at : Bytes → Part Base
base_at [] = Err BadAddress
base_at (b ∷ bs) =
    cond (b == dot) (Ok (at_current, bs))
    (cond (b == dollar) (Ok (at_last, bs))
    (cond (b == quote) (mark_at bs >>= λ r. Ok (at_mark r.0, r.1))
    (cond (b == slash) (pattern_at slash bs >>= λ r. Ok (at_match r.0, r.1))
    (cond (is_sign b) (Ok (at_current, b ∷ bs))
    (number_at (b ∷ bs) >>= λ r. Ok (at_number r.0, r.1))))))

abbrev pub only : Base → Address
only b = record { base = b; ahead = 0; back = 0 }

-- An address. Where none begins, it is missing.
unfoldable pub address_at : Bytes → Part Address
address_at bs = base_at bs >>= λ r. offsets_at (length r.1) (only r.0) r.1

-- A byte that an address begins with.
abbrev pub opens_address : ℕ → Bool
opens_address b = b == dot || b == dollar || b == quote || b == slash || is_sign b || is_digit b

abbrev pub is_comma : ℕ → Bool
is_comma b = b == comma

-- Behind a first address and a comma: the second, and no further comma.
unfoldable pub second_at : Address → Bytes → Part Addresses
second_at a bs = address_at bs >>= λ r. when (not (begins is_comma r.1)) BadAddress (Ok (two_addresses a r.0, r.1))

-- Behind a first address.
unfoldable pub after_first : Address → Bytes → Part Addresses
after_first a [] = Ok (one_address a, [])
after_first a (b ∷ bs) = cond (is_comma b) (second_at a bs) (Ok (one_address a, b ∷ bs))

-- Without a first address: nothing, or a comma by itself, which stands for `1,$`.
unfoldable pub without_first : Bytes → Part Addresses
without_first [] = Ok (no_address, [])
without_first (b ∷ bs) =
    cond (is_comma b)
    (when (not (begins opens_address bs || begins is_comma bs)) BadAddress
    (Ok (two_addresses (only (at_number 1)) (only at_last), bs)))
    (Ok (no_address, b ∷ bs))

-- The addresses in front of a command.
unfoldable pub addresses_at : Bytes → Part Addresses
addresses_at bs =
    cond (begins opens_address bs) (address_at bs >>= λ r. after_first r.0 r.1) (without_first bs)
