use Rattle.std.proofs.Common.{◌≡◌, ◌+◌, ◌++◌, take, drop}
use Rattle.gap_store.specs.Rows.{total, relaid}
use Rattle.gap_store.proofs.laying.lay.Given as goal

-- the rows that were passed are laid, and the others as they were
abbrev pub invariant-loop-row : goal.invariant-loop-row
invariant-loop-row l = (l.rows ≡ relaid l.start (take l.row-index l.initial.rows) ++ drop l.row-index l.initial.rows) × (l.at ≡ l.start + total (take l.row-index l.initial.rows))
