-- What the code's sets, items and patterns mean.
use Rattle.std.specs.Prelude.{map, Ok, Err, Result}
use Rattle.patterns.specs.declared.byte_set.ByteSet.{ByteSet}
use Rattle.patterns.specs.declared.fault.PatternFault.{PatternFault}
use Rattle.patterns.specs.declared.pattern.Item.{Item as ItemCode}
use Rattle.patterns.specs.declared.pattern.Pattern.{Pattern as PatternCode}
use Rattle.patterns.specs.Sets.{Set}
use Rattle.patterns.specs.Bits.{table_of}
use Rattle.patterns.specs.Items.{Item, Pattern}
use Rattle.patterns.specs.Reading.{Read}

abbrev pub members : ByteSet → Set
members s = table_of s.words

abbrev pub item_of : ItemCode → Item
item_of i = record { set = members i.set; starred = i.starred }

abbrev pub meaning : PatternCode → Pattern
meaning p = record { front = p.front; items = map item_of p.items.items; back = p.back }

-- An answer of `Pattern::read`, with the pattern's meaning.
abbrev pub viewed : Result PatternCode PatternFault → Read Pattern
viewed (Ok p) = Ok (meaning p)
viewed (Err f) = Err f
