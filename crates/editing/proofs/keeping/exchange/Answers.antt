use Rattle.std.proofs.Common.{rules}
use Rattle.editing.proofs.Exchanging.{count-fronted, tail_from, tail_to}
use Rattle.editing.proofs.keeping.exchange.Goals as goal

pub move_tail-requires : goal.move_tail-requires
move_tail-requires g c = let f = g.met.T.LineStore.sound c.args.text.now in search (rules, count-fronted)

pub move_tail-requires-else-m-n : goal.move_tail-requires-else-m-n
move_tail-requires-else-m-n g c = let f = g.met.K.LineStore.sound c.args.keep.now in search (rules, count-fronted)

pub returns-then-m-n : goal.returns-then-m-n
returns-then-m-n g c = search (rules, tail_from, tail_to)

pub returns-else-m-n : goal.returns-else-m-n
returns-else-m-n g c = search (rules, tail_from, tail_to)
