use Rattle.std.proofs.Common.{◌≡◌, ◌-◌, true, false, not, ◌&&◌, eqb, length, get_or, sym, ap, ◌∙◌, ⊎_elim, arith, rules}
use Rattle.std.proofs.lemmas.List.{take_rest, length-drop}
use Rattle.std.proofs.lemmas.Result.{err_from_is_err_and}
use Rattle.std.proofs.lemmas.Bool.{eq-eqb, ne_eqb, and_from, and_left, and_right, not_from_true, not_from_false}
use Rattle.patterns.specs.Bits.{table_of}
use Rattle.patterns.specs.Reading.{members_at, closing}
use Rattle.patterns.proofs.Members.{members_end, closed, refused, taken}
use Rattle.patterns.proofs.pattern.reader.Reader.inside.Goals as goal

pub returns-then-not-first : goal.returns-then-not-first
returns-then-not-first c =
    let l = c.loop-self in
    let b = get_or l.self.rest.now 0 0 in
    let closes : (eqb b closing && not l.first) ≡ true =
    and_from (eqb b closing) (not l.first) (eq-eqb b closing c.if-byte-eq93.true) (not_from_false l.first c.if-not-first.true) in
    let e = closed l.first (table_of l.set.words) l.invariant.0 l.self.rest.now (omega arith) l.invariant.1 closes in
    simp take_rest (sym e ∙ l.invariant.2)

pub returns-in_err-member : goal.returns-in_err-member
returns-in_err-member c =
    let l = c.loop-self in
    let p = err_from_is_err_and c.from_residual.result c.from_residual.ensures.1 in
    let b = get_or l.self.rest.now 0 0 in
    let more : (eqb b closing && not l.first) ≡ false =
    ⊎_elim
    (λ h. and_right (eqb b closing) (not l.first) (not_from_true l.first h.1))
    (λ h. and_left (eqb b closing) (not l.first) (ne_eqb b closing h)) c.else-byte-eq93.either in
    let e = simp take_rest at c.in_err-member.ensures.value in
    rw (p.1, p.2)
    (refused l.first (table_of l.set.words) l.invariant.0 l.self.rest.now (omega arith) l.invariant.1 more c.in_err-member.field-0.0 e ∙ l.invariant.2)

pub loop-self-preserved : goal.loop-self-preserved
loop-self-preserved c =
    let l = c.loop-self in
    let b = get_or l.self.rest.now 0 0 in
    let more : (eqb b closing && not l.first) ≡ false =
    ⊎_elim
    (λ h. and_right (eqb b closing) (not l.first) (not_from_true l.first h.1))
    (λ h. and_left (eqb b closing) (not l.first) (ne_eqb b closing h)) c.else-byte-eq93.either in
    let m = c.in_ok-member.member in
    let rest = c.member.new.self.rest.now in
    let e = simp take_rest at c.in_ok-member.ensures.value in
    let forward = simp (take_rest, length-drop) at c.in_ok-member.ensures.forward in
    let t = taken l.first (table_of l.set.words) l.invariant.0 l.self.rest.now (omega arith) l.invariant.1 more m.low m.high rest e in (
      l.invariant.0 - 1,
      omega arith,
      ap (λ s. members_at (l.invariant.0 - 1) false s rest) c.insert_span.ensures ∙ t ∙ l.invariant.2,
    )

pub returns : goal.returns
returns c =
    let l = c.loop-self in
    let none : length l.self.rest.now ≡ 0 = search rules in
    sym (members_end l.invariant.0 l.first (table_of l.set.words) l.self.rest.now none) ∙ l.invariant.2
