use Rattle.std.proofs.Common.{arith, rules}
use Rattle.tags.proofs.Changing.{walked_more, walked_all}
use Rattle.tags.proofs.one_line.change_all.Goals as goal

pub loop-i-preserved : goal.loop-i-preserved
loop-i-preserved g c = record {
  count = search rules;
  capacity = search rules;
  walked = λ f means. walked_more f c.loop-i.i _ _ _ (c.loop-i.invariant.walked f means) (c.change_tag.ensures.lines f means) c.change_tag.ensures.capacity;
}

pub returns-clause-lines : goal.returns-clause-lines
returns-clause-lines g c = λ f means. walked_all f c.loop-i.i _ _ (c.loop-i.invariant.walked f means) (omega arith)
