-- What a command line says: its addresses, and its command with all that belongs to it.
use Rattle.std.specs.Prelude.{ℕ, Bool, List}
use Rattle.command.specs.Marks.{Mark}

abbrev pub Bytes : Type 0
Bytes = List ℕ

-- What an address counts from: the current line, the last, a number, the line with a mark, or the next line that
-- matches the pattern between two `/`.
pub data Base : Type 0 where
  at_current at_last : Base
  at_number : ℕ → Base
  at_mark : Mark → Base
  at_match : Bytes → Base

-- A base and the sums of what is added to it and taken from it.
pub record Address : Type 0 where
  pub base : Base
  pub ahead : ℕ
  pub back : ℕ

-- The addresses in front of a command.
pub data Addresses : Type 0 where
  no_address : Addresses
  one_address : Address → Addresses
  two_addresses : Address → Address → Addresses

-- A pattern as it is spelled: the bytes between its delimiters.
pub record Sought : Type 0 where
  pub delimiter : ℕ
  pub part : Bytes

-- The file that a command means.
pub data FileName : Type 0 where
  remembered_name : FileName
  given_name : Bytes → FileName

-- `all`: every match of a line is replaced, and not only the first. `print`: the last line made is printed.
pub record Substitution : Type 0 where
  pub sought : Sought
  pub replacement : Bytes
  pub all : Bool
  pub print : Bool

-- What the list of a global may hold too. `print_next` is the empty command.
pub data Action : Type 0 where
  delete_lines print_lines print_next print_number : Action
  mark_line : Mark → Action
  move_lines : Address → Action
  substitute : Substitution → Action
  write_file : FileName → Action

-- The lines that a global chooses.
pub data Chooser : Type 0 where
  matching_lines lacking_lines : Sought → Chooser

-- `global` has the lines that it chooses, and the list that each has its turn with.
pub data Command : Type 0 where
  act : Action → Command
  append_text quit_session undo_change : Command
  edit_file : FileName → Command
  global : Chooser → Bytes → Command

pub record Said : Type 0 where
  pub addresses : Addresses
  pub command : Command
