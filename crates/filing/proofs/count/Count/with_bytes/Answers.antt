use Rattle.std.proofs.Common.{◌+◌, get_or, drop, sym, ap, ◌∙◌, arith}
use Rattle.std.proofs.lemmas.List.{at_drop_more, at_drop_all}
use Rattle.filing.specs.declared.count.Count.{Count}
use Rattle.filing.specs.Counting.{counted}
use Rattle.filing.proofs.Splitting.{byte_bounds}
use Rattle.filing.proofs.count.Count.with_bytes.Goals as goal

pub loop-b-preserved : goal.loop-b-preserved
loop-b-preserved c =
    let bytes = c.args.bytes.now in
    let i = c.loop-b.b-index in
    let next = at_drop_more (counted c.loop-b.sum) bytes i 0 c.loop-b-test.true in
    let bounds = byte_bounds c.loop-b.sum (get_or bytes i 0) in
    let ended = ap (λ (x : Count). x.ended) c.with_byte-sum.ensures in
    let pending = ap (λ (x : Count). x.pending) c.with_byte-sum.ensures in (
      ap (λ (x : Count). counted x (drop (i + 1) bytes)) c.with_byte-sum.ensures ∙ (sym next ∙ c.loop-b.invariant.0),
      omega (arith, bounds),
      omega (arith, bounds),
    )

pub with_byte-sum-requires : goal.with_byte-sum-requires
with_byte-sum-requires c = record { ended = omega arith; pending = omega arith }

pub returns : goal.returns
returns c = let e = at_drop_all (counted c.loop-b.sum) c.args.bytes.now c.loop-b.b-index c.loop-b-test.false in sym e ∙ c.loop-b.invariant.0
