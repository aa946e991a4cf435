-- The line that a slot holds.
use Rattle.std.specs.Prelude.{List, map, take}
use Rattle.lines.specs.Line.{Line}
use Rattle.chain_store.specs.declared.slot.Slot.{Slot}

abbrev pub line_of : Slot → Line
line_of s = record { text = take s.len s.bytes; tag = s.tag }

-- the line of each slot
abbrev pub held : List Slot → List Line
held slots = map line_of slots
