use Rattle.std.proofs.Common.{◌-◌, ap, ◌∙◌, length, arith}
use Rattle.std.proofs.lemmas.Result.{err_from_is_err_and}
use Rattle.command.specs.View.{address_view}
use Rattle.reading.proofs.Offsets.{offsets_refused, offsets_ahead, offsets_back}
use Rattle.reading.proofs.reader.Reader.offsets.Goals as goal

pub returns-in_err-number : goal.returns-in_err-number
returns-in_err-number c =
    let l = c.loop-sign in
    let p = err_from_is_err_and c.from_residual.result c.from_residual.ensures.1 in
    rw (p.1, p.2)
    (offsets_refused l.invariant.1.0 (address_view l.address) l.self.rest.now l.invariant.1.1 c.in-Some.sign c.sign.new.self.rest.now c.in-Some.ensures c.in_err-number.field-0.0 c.in_err-number.ensures.value
    ∙ l.invariant.1.2)

pub loop-sign-preserved-then-sign-eq43 : goal.loop-sign-preserved-then-sign-eq43
loop-sign-preserved-then-sign-eq43 c =
    let l = c.loop-sign in
    let r = c.in_ok-number.ensures in
    let s = c.in-Some.ensures in (
      omega (arith, ap length s.0, r.shorter),
      (
        l.invariant.1.0 - 1,
        omega (arith, ap length s.0, r.shorter, l.invariant.1.1),
        offsets_ahead l.invariant.1.0 (address_view l.address) l.self.rest.now l.invariant.1.1 c.in-Some.sign c.sign.new.self.rest.now s c.in_ok-number.number c.number.new.self.rest.now r.value
            c.if-sign-eq43.true ∙ l.invariant.1.2,
      ),
    )

pub loop-sign-preserved : goal.loop-sign-preserved
loop-sign-preserved c =
    let l = c.loop-sign in
    let r = c.in_ok-number.ensures in
    let s = c.in-Some.ensures in (
      omega (arith, ap length s.0, r.shorter),
      (
        l.invariant.1.0 - 1,
        omega (arith, ap length s.0, r.shorter, l.invariant.1.1),
        offsets_back l.invariant.1.0 (address_view l.address) l.self.rest.now l.invariant.1.1 c.in-Some.sign c.sign.new.self.rest.now s c.in_ok-number.number c.number.new.self.rest.now r.value
            c.if-sign-eq43.false ∙ l.invariant.1.2,
      ),
    )
