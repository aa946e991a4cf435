-- What the readers answer, and the bytes that they leave.
use Rattle.std.specs.Prelude.{Bool, Some, None, Ok, Err, Option, Result}
use Rattle.std.specs.Option.{option_map}
use Rattle.command.specs.declared.fault.Fault.{Fault}
use Rattle.command.specs.declared.fault.Fault.TheVariants.{BadCommand}
use Rattle.command.specs.Said.{Bytes, Command}
use Rattle.reading.specs.declared.letter.Rights.{Rights}
use Rattle.reading.specs.declared.setting.Setting.{Setting as SettingCode}
use Rattle.reading.specs.Read.{Read, Part}
use Rattle.reading.specs.Commands.{Setting, Rule}

abbrev pub seen : {X A : Type 0} → (X → A) → Result X Fault → Read A
seen view (Ok x) = Ok (view x)
seen view (Err f) = Err f

-- The same with the bytes that the reader leaves.
abbrev pub part_seen : {X A : Type 0} → (X → A) → Result X Fault → Bytes → Part A
part_seen view (Ok x) rest = Ok (view x, rest)
part_seen view (Err f) rest = Err f

abbrev pub front_seen : {X : Type 0} → Option X → Bytes → Option (X × Bytes)
front_seen (Some x) rest = Some (x, rest)
front_seen None rest = None

abbrev pub setting_view : SettingCode → Setting
setting_view s = record { in_list = s.in_list; has_name = s.has_name }

-- What the code's table says of a letter: whether a list may hold the command, and whether it takes addresses.
abbrev pub rights_of : Option Rule → Option (Bool × Bool)
rights_of o = option_map (λ r. (r.listed, r.addressed)) o

abbrev pub rights_seen : Option Rights → Option (Bool × Bool)
rights_seen o = option_map (λ r. (r.listed, r.addressed)) o

-- What stands behind a letter, for which there may be no rule.
abbrev pub operands_by : Bool → Bytes → Option Rule → Read Command
operands_by has_name bs None = Err BadCommand
operands_by has_name bs (Some r) = r.operands has_name bs
