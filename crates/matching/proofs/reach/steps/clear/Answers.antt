use Rattle.std.proofs.Common.{rules}
use Rattle.matching.proofs.Rows.{cleared}
use Rattle.matching.proofs.reach.steps.clear.Goals as goal

pub returns : goal.returns
returns c =
    cleared c.args.row.now c.fill.new.self c.args.reach c.requires.spans c.requires.within (search rules) (λ k h. search rules)
