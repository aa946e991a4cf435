use Rattle.std.proofs.Common.{rules}
use Rattle.editing.proofs.Exchanging.{fronted_more, count-fronted}
use Rattle.editing.proofs.swapping.swap_front.Goals as goal

pub swap_line-requires : goal.swap_line-requires
swap_line-requires g c = search (rules, count-fronted)

pub loop-i-preserved : goal.loop-i-preserved
loop-i-preserved g c = search (rules, fronted_more)
