-- What the readers of a pattern's parts answer, and the bytes that they leave.
use Rattle.std.specs.Prelude.{ℕ, Ok, Err, Result}
use Rattle.patterns.specs.declared.fault.PatternFault.{PatternFault}
use Rattle.patterns.specs.declared.byte_set.ByteSet.{ByteSet}
use Rattle.patterns.specs.declared.pattern.Item.{Item as ItemCode}
use Rattle.patterns.specs.declared.pattern.reader.member.Member.{Member}
use Rattle.patterns.specs.Sets.{Set}
use Rattle.patterns.specs.Items.{Bytes, Item}
use Rattle.patterns.specs.Reading.{Read}
use Rattle.patterns.specs.View.{members, item_of}

abbrev pub set_left : Result ByteSet PatternFault → Bytes → Read (Set × Bytes)
set_left (Ok s) rest = Ok (members s, rest)
set_left (Err f) rest = Err f

abbrev pub member_left : Result Member PatternFault → Bytes → Read (ℕ × ℕ × Bytes)
member_left (Ok m) rest = Ok (m.low, m.high, rest)
member_left (Err f) rest = Err f

abbrev pub item_left : Result ItemCode PatternFault → Bytes → Read (Item × Bytes)
item_left (Ok i) rest = Ok (item_of i, rest)
item_left (Err f) rest = Err f
