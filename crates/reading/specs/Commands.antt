-- What stands behind each command letter, the table of the letters, and what a whole command line says.
use Rattle.std.specs.Prelude.{ℕ, Bool, true, false, cond, not, ◌&&◌, ◌||◌, List, [], ◌∷◌, length, Some, None, Ok, Err, Option, ◌==◌, nat_lt}
use Rattle.command.specs.declared.fault.Fault.TheVariants.{CommandTooLong, BadCommand, NotInList, UnwantedAddress}
use Rattle.command.specs.Said.{Bytes, Sought, Addresses, no_address, one_address, two_addresses, delete_lines, mark_line, move_lines, print_lines, print_next, print_number, substitute, write_file, Chooser, matching_lines, lacking_lines, Command, act, append_text, edit_file, quit_session, undo_change, global, Said}
use Rattle.reading.specs.Read.{Read, ◌>>=◌, when}
use Rattle.reading.specs.Parts.{part_at, sought_at}
use Rattle.reading.specs.Addresses.{mark_at, address_at, addresses_at}
use Rattle.reading.specs.Names.{name_at}

-- A command with nothing behind it.
unfoldable pub alone : Command → Bytes → Read Command
alone c [] = Ok c
alone c (b ∷ bs) = Err BadCommand

-- `k`, a letter and nothing else; `m` and one address.
unfoldable pub marking : Bytes → Read Command
marking bs = mark_at bs >>= λ r. alone (act (mark_line r.0)) r.1

unfoldable pub moving : Bytes → Read Command
moving bs = address_at bs >>= λ r. alone (act (move_lines r.0)) r.1

-- The flags of `s`, whether all matches are meant and whether to print: nothing, `g`, `p` or `gp`.
unfoldable pub flags_of : Bytes → Read (Bool × Bool)
flags_of [] = Ok (false, false)
flags_of (b ∷ []) = cond (b == 103) (Ok (true, false)) (when (b == 112) BadCommand (Ok (false, true)))
flags_of (b ∷ c ∷ []) = when (b == 103 && c == 112) BadCommand (Ok (true, true))
flags_of (b ∷ c ∷ d ∷ bs) = Err BadCommand

-- `s`: a pattern between delimiters, a replacement up to the next delimiter, and flags.
unfoldable pub substituting : Bytes → Read Command
substituting bs =
    sought_at bs >>= λ s. part_at s.0.delimiter s.1 >>= λ r. flags_of r.1 >>= λ f.
    Ok (act (substitute (record { sought = s.0; replacement = r.0; all = f.0; print = f.1 })))

-- `g` and `v`: a pattern between delimiters; all the rest is the list.
unfoldable pub choosing : (Sought → Chooser) → Bytes → Read Command
choosing lines bs = sought_at bs >>= λ s. Ok (global (lines s.0) s.1)

unfoldable pub editing : Bool → Bytes → Read Command
editing has_name bs = name_at has_name bs >>= λ n. Ok (edit_file n)

unfoldable pub writing : Bool → Bytes → Read Command
writing has_name bs = name_at has_name bs >>= λ n. Ok (act (write_file n))

-- A command letter: whether a list may hold the command, whether it takes addresses, and how what stands behind the
-- letter is read, which may depend on whether a name is remembered.
pub record Rule : Type 0 where
  pub letter : ℕ
  pub listed : Bool
  pub addressed : Bool
  pub operands : Bool → Bytes → Read Command

abbrev rule : ℕ → Bool → Bool → (Bool → Bytes → Read Command) → Rule
rule b l a r = record { letter = b; listed = l; addressed = a; operands = r }

-- `a` `d` `k` `m` `p` `=` `s` `e` `w` `q` `u` `g` `v`, in this order.
abbrev pub rules : List Rule
rules =
    rule 97 false true (λ _. alone append_text)
    ∷ rule 100 true true (λ _. alone (act delete_lines))
    ∷ rule 107 true true (λ _. marking)
    ∷ rule 109 true true (λ _. moving)
    ∷ rule 112 true true (λ _. alone (act print_lines))
    ∷ rule 61 true true (λ _. alone (act print_number))
    ∷ rule 115 true true (λ _. substituting)
    ∷ rule 101 false false editing
    ∷ rule 119 true true writing
    ∷ rule 113 false false (λ _. alone quit_session)
    ∷ rule 117 false false (λ _. alone undo_change)
    ∷ rule 103 false true (λ _. choosing matching_lines)
    ∷ rule 118 false true (λ _. choosing lacking_lines)
    ∷ []

abbrev pub rule_in : List Rule → ℕ → Option Rule
rule_in [] b = None
rule_in (r ∷ rs) b = elim (b == r.letter) [ true ↦ Some r | false ↦ rule_in rs b ]

unfoldable pub rule_for : ℕ → Option Rule
rule_for b = rule_in rules b

-- What reading depends on besides the bytes: whether they stand in a list, and whether a name is remembered.
pub record Setting : Type 0 where
  pub in_list : Bool
  pub has_name : Bool

-- At the letter the faults have this order.
abbrev pub by_rule : Setting → Bool → Bytes → Option Rule → Read Command
by_rule s addressed bs None = Err BadCommand
by_rule s addressed bs (Some r) =
    when (not s.in_list || r.listed) NotInList
    (when (not addressed || r.addressed) UnwantedAddress
    (r.operands s.has_name bs))

-- Behind the addresses: nothing, which is the empty command, or a letter.
unfoldable pub command_at : Setting → Bool → Bytes → Read Command
command_at s addressed [] = Ok (act print_next)
command_at s addressed (b ∷ bs) = by_rule s addressed bs (rule_for b)

abbrev pub is_given : Addresses → Bool
is_given no_address = false
is_given (one_address a) = true
is_given (two_addresses a b) = true

unfoldable pub said_in : Setting → Bytes → Read Said
said_in s bs = addresses_at bs >>= λ a. command_at s (is_given a.0) a.1 >>= λ c. Ok (record { addresses = a.0; command = c })

-- The longest command line, however many lines it was gathered from.
abbrev pub most_bytes : ℕ
most_bytes = 1000

-- What a command line says. A longer one is refused before anything of it is read.
abbrev pub said : Setting → Bytes → Read Said
said s bs = cond (nat_lt most_bytes (length bs)) (Err CommandTooLong) (said_in s bs)
