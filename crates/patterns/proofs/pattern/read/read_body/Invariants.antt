use Rattle.std.proofs.Common.{◌≡◌, ◌-◌, ◌≤◌, true, eqb, map, length}
use Rattle.patterns.specs.Reading.{items_at}
use Rattle.patterns.specs.View.{item_of}
use Rattle.patterns.proofs.Steps.{ahead}
use Rattle.patterns.proofs.pattern.read.read_body.Given as goal

-- the items so far, and those that are left, are what the whole is read as
abbrev pub invariant-loop-back : goal.invariant-loop-back
invariant-loop-back l =
    (length l.items.items ≤ 64)
    × (ahead (map item_of l.items.items) (items_at (64 - length l.items.items) l.delimiter (eqb (length l.items.items) 0) l.reader.rest.now)
    ≡ items_at 64 l.delimiter true l.body)

abbrev pub decreases-loop-back : goal.decreases-loop-back
decreases-loop-back l = 64 - length l.items.items
