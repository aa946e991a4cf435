use Rattle.std.proofs.Common.{arith}
use Rattle.command.specs.View.{sought_view}
use Rattle.substituting.proofs.Through.{found_next}
use Rattle.substituting.proofs.spelling.Spelling.next_match.Goals as goal

pub returns : goal.returns
returns c =
    found_next c.args.cursor (sought_view c.args.self.now.rule.now.substitution.sought) c.args.self.now.text.bytes.now c.search.result
    (omega arith) c.search.ensures.value c.search.ensures.within
