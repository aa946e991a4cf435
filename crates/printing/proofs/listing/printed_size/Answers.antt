use Rattle.std.proofs.Common.{length, ap, arith}
use Rattle.printing.proofs.Ranging.{left_none, left_range, left_length}
use Rattle.printing.proofs.listing.printed_size.Goals as goal

pub overflow_add-size : goal.overflow_add-size
overflow_add-size g c = let sound = g.met.T.LineStore.sound c.args.text.now in omega arith

pub loop-i-preserved : goal.loop-i-preserved
loop-i-preserved g c =
    let next = left_length (g.T.LineStore.meaning c.args.text.now) c.loop-i.i c.args.range.last (omega arith) (omega arith) in
    (omega arith, omega arith)

pub returns : goal.returns
returns g c =
    let s = g.T.LineStore.meaning c.args.text.now in
    let none = ap length (left_none s c.loop-i.i c.args.range.last (omega arith)) in
    let all = ap length (left_range s c.args.range.first c.args.range.last (omega arith)) in
    omega arith
