use Rattle.std.proofs.Common.{◌+◌, ◌≤◌, map, length, take}
use Rattle.matching.specs.Rows.{Spans}
use Rattle.patterns.specs.View.{item_of}
use Rattle.matching.proofs.Reached.{Row}
use Rattle.matching.proofs.search.longest_at.Given as goal

abbrev pub invariant-loop-item : goal.invariant-loop-item
invariant-loop-item l =
    Row (map item_of (take l.item-index l.items)) l.line l.start l.row × Spans l.row l.reach × (l.reach.end ≤ length l.line + 1)
