use Rattle.std.proofs.Common.{◌+◌, ◌≤◌, length, Option, sym, subst, arith}
use Rattle.matching.specs.declared.reach.Reach.{Reach}
use Rattle.patterns.specs.View.{item_of}
use Rattle.matching.proofs.Rows.{ReachedBelow, ends_below, half_begun, half_on, below_missed, below_hit, half_over, half_spans}
use Rattle.matching.proofs.reach.steps.advance.Goals as goal
use Rattle.matching.proofs.reach.steps.advance.Goals.{then-place-reach, else-place-reach+then-led, then-here, else-here}

pub loop-place-init : goal.loop-place-init
loop-place-init c =
    half_begun (item_of c.args.item.now) c.args.line.now c.args.row.now c.args.reach c.requires.spans c.requires.within c.requires.long

pub extended-requires-clause-behind : goal.extended-requires-clause-behind
extended-requires-clause-behind c =
    let l = c.loop-place in ends_below (item_of c.args.item.now) c.args.line.now c.args.row.now l.place l.next l.invariant.found l.place (omega arith)

pub loop-place-preserved : goal.loop-place-preserved
loop-place-preserved c =
    let l = c.loop-place in
    let i = item_of c.args.item.now in
    let line = c.args.line.now in
    let old = c.args.row.now in
    let reach = c.args.reach in
    let inside : l.place ≤ length line =
    elim c.if-place-reach.branch [
      | then-place-reach w ↦ (let a = w.if-place-reach.true in let b = c.requires.within in omega arith)
      | else-place-reach+then-led w ↦ l.invariant.carries w.if-led.true
    ] in
    let below : Option Reach → Type 0 = λ x. ReachedBelow i line old (l.place + 1) x in
    let found : below c.if-here.next =
    elim c.if-here.branch [
      | then-here w ↦
          subst below (sym w.next-is)
          (below_hit i line old reach c.requires.spans c.requires.within c.requires.long
          l.row l.place l.led l.next l.invariant w.if-here.true w.extended.result w.extended.ensures)
      | else-here w ↦
          subst below (sym w.next-is)
          (below_missed i line old reach c.requires.spans c.requires.within c.requires.long
          l.row l.place l.led l.next l.invariant w.if-here.false)
    ] in
    half_on i line old reach c.requires.spans c.requires.within c.requires.long
    l.row l.place l.led l.next l.invariant inside c.byte_in.result c.byte_in.ensures c.if-here.next found

pub returns : goal.returns
returns c =
    let l = c.loop-place in
    let i = item_of c.args.item.now in
    let line = c.args.line.now in
    let old = c.args.row.now in
    let reach = c.args.reach in
    record {
      after = half_over i line old reach c.requires.spans c.requires.within c.requires.long l.row l.place l.led l.next l.invariant c.if-place-reach.false c.if-led.false;
      spans = half_spans i line old reach c.requires.spans c.requires.within c.requires.long l.row l.place l.led l.next l.invariant c.if-place-reach.false c.if-led.false;
      within = ends_below i line old l.place l.next l.invariant.found (length line + 1) (let a = l.invariant.short in omega arith);
    }
