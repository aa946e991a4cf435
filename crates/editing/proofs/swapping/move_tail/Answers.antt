use Rattle.std.proofs.Common.{rules}
use Rattle.editing.proofs.Exchanging.{moved_more, moved_none, moved-count, moved_all, cut_end, without_start}
use Rattle.editing.proofs.Steps.{count_cut, without_more}
use Rattle.editing.proofs.swapping.move_tail.Goals as goal

pub loop-i-init : goal.loop-i-init
loop-i-init g c = search (rules, moved_none, without_start)

pub copy_with_tag-requires : goal.copy_with_tag-requires
copy_with_tag-requires g c = search (rules, count_cut, moved-count)

pub take_line-requires : goal.take_line-requires
take_line-requires g c = search (rules, count_cut)

pub loop-i-preserved : goal.loop-i-preserved
loop-i-preserved g c = search (rules, moved_more, without_more)

pub returns : goal.returns
returns g c = search (rules, cut_end, moved_all)
