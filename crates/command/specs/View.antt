-- What the code's values say: the same, with the bytes that a piece of the line refers to.
use Rattle.std.specs.Prelude.{List, [], ◌∷◌, Some, None, Option}
use Rattle.std.specs.Borrow.{Bor}
use Rattle.command.specs.declared.replacement.Bit.{Bit as BitCode}
use Rattle.command.specs.declared.replacement.Bit.TheVariants.{TheMatch, TheByte, TheBreak}
use Rattle.command.specs.declared.said.Base.{Base as BaseCode}
use Rattle.command.specs.declared.said.Base.TheVariants.{AtCurrent, AtLast, AtNumber, AtMark, AtMatch}
use Rattle.command.specs.declared.said.Address.{Address as AddressCode}
use Rattle.command.specs.declared.said.Addresses.{Addresses as AddressesCode}
use Rattle.command.specs.declared.said.Addresses.TheVariants.{NoAddress, OneAddress, TwoAddresses}
use Rattle.command.specs.declared.said.Sought.{Sought as SoughtCode}
use Rattle.command.specs.declared.said.FileName.{FileName as FileNameCode}
use Rattle.command.specs.declared.said.FileName.TheVariants.{Remembered, Given}
use Rattle.command.specs.declared.said.Substitution.{Substitution as SubstitutionCode}
use Rattle.command.specs.declared.said.Action.{Action as ActionCode}
use Rattle.command.specs.declared.said.Action.TheVariants.{DeleteLines, MarkLine, MoveLines, PrintLines, PrintNext, PrintNumber, Substitute, WriteFile}
use Rattle.command.specs.declared.said.Chooser.{Chooser as ChooserCode}
use Rattle.command.specs.declared.said.Chooser.TheVariants.{Matching, Lacking}
use Rattle.command.specs.declared.said.Command.{Command as CommandCode}
use Rattle.command.specs.declared.said.Command.TheVariants.{Act, AppendText, EditFile, QuitSession, UndoChange, Global}
use Rattle.command.specs.declared.said.Said.{Said as SaidCode}
use Rattle.command.specs.Said.{Bytes, Base, at_current, at_last, at_number, at_mark, at_match, Address, Addresses, no_address, one_address, two_addresses, Sought, FileName, remembered_name, given_name, Substitution, Action, delete_lines, mark_line, move_lines, print_lines, print_next, print_number, substitute, write_file, Chooser, matching_lines, lacking_lines, Command, act, append_text, edit_file, quit_session, undo_change, global, Said}
use Rattle.command.specs.Lists.{commands_in}
use Rattle.command.specs.Replacements.{Bit, the_match, the_byte, the_break, bits_of}

abbrev pub base_view : BaseCode → Base
base_view AtCurrent = at_current
base_view AtLast = at_last
base_view (AtNumber n) = at_number n
base_view (AtMark m) = at_mark m.letter
base_view (AtMatch part) = at_match part.now

abbrev pub address_view : AddressCode → Address
address_view a = record { base = base_view a.base; ahead = a.ahead; back = a.back }

abbrev pub addresses_view : AddressesCode → Addresses
addresses_view NoAddress = no_address
addresses_view (OneAddress a) = one_address (address_view a)
addresses_view (TwoAddresses a b) = two_addresses (address_view a) (address_view b)

abbrev pub sought_view : SoughtCode → Sought
sought_view s = record { delimiter = s.delimiter; part = s.part.now }

abbrev pub name_view : FileNameCode → FileName
name_view Remembered = remembered_name
name_view (Given name) = given_name name.now

abbrev pub substitution_view : SubstitutionCode → Substitution
substitution_view s =
    record { sought = sought_view s.sought; replacement = s.replacement.now; all = s.all; print = s.print }

abbrev pub action_view : ActionCode → Action
action_view DeleteLines = delete_lines
action_view (MarkLine m) = mark_line m.letter
action_view (MoveLines a) = move_lines (address_view a)
action_view PrintLines = print_lines
action_view PrintNext = print_next
action_view PrintNumber = print_number
action_view (Substitute s) = substitute (substitution_view s)
action_view (WriteFile name) = write_file (name_view name)

abbrev pub chooser_view : ChooserCode → Chooser
chooser_view (Matching s) = matching_lines (sought_view s)
chooser_view (Lacking s) = lacking_lines (sought_view s)

abbrev pub command_view : CommandCode → Command
command_view (Act a) = act (action_view a)
command_view AppendText = append_text
command_view (EditFile name) = edit_file (name_view name)
command_view QuitSession = quit_session
command_view UndoChange = undo_change
command_view (Global chooser list) = global (chooser_view chooser) list.now

abbrev pub said_view : SaidCode → Said
said_view s = record { addresses = addresses_view s.addresses; command = command_view s.command }

abbrev pub bit_view : BitCode → Bit
bit_view TheMatch = the_match
bit_view (TheByte b) = the_byte b
bit_view TheBreak = the_break

-- The bits of a replacement, of which the code has the first and what is left.
abbrev pub bits_behind : Option (BitCode × Bor Bytes) → List Bit
bits_behind None = []
bits_behind (Some r) = bit_view r.0 ∷ bits_of r.1.now

-- The commands behind a list's first, of which the code has the bytes.
abbrev pub commands_behind : Option (Bor Bytes) → List Bytes
commands_behind None = []
commands_behind (Some rest) = commands_in rest.now
