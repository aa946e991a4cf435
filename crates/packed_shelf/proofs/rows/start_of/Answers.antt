use Rattle.std.proofs.Common.{rules}
use Rattle.std.proofs.lemmas.List.Sums.{sum_by-take-le}
use Rattle.packed_shelf.specs.declared.row.Row.{Row}
use Rattle.packed_shelf.proofs.rows.start_of.Goals as goal

pub sum-requires-clause-fits : goal.sum-requires-clause-fits
sum-requires-clause-fits c = let t = sum_by-take-le (λ (r : Row). r.size) c.args.rows.now c.args.n in search rules
