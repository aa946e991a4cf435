use Rattle.std.proofs.Common.{not, ap, ◌∙◌}
use Rattle.choosing.proofs.Holding.{holds_matching, holds_lacking}
use Rattle.choosing.proofs.wanting.Choice.holds.Goals as goal

pub returns-in-Matching : goal.returns-in-Matching
returns-in-Matching g c =
    c.finds.ensures
    ∙ holds_matching c.args.self.now.reading _ c.in-Matching.field-0 c.args.self.now.chooser c.in-Matching.is c.args.self.now.read

pub returns-in-Lacking : goal.returns-in-Lacking
returns-in-Lacking g c =
    ap not c.finds-in-Lacking.ensures
    ∙ holds_lacking c.args.self.now.reading _ c.in-Lacking.field-0 c.args.self.now.chooser c.in-Lacking.is c.args.self.now.read
