use Rattle.std.proofs.Common.{◌≡◌, ◌-◌, List, length, take, ap, ◌∙◌, arith}
use Rattle.std.proofs.lemmas.List.{length-map}
use Rattle.command.specs.View.{substitution_view}
use Rattle.ranges.specs.Spans.{span_of}
use Rattle.rules.specs.Lines.{Line, seen, seen_lines}
use Rattle.substituting.proofs.Underway.{underway_start, underway_over, turn_of, fits_turn, room_turn, under_turn, front_kept}
use Rattle.substituting.proofs.rewriting.rewrite_lines.Goals as goal

pub loop-init : goal.loop-init
loop-init g c =
    let t = g.T.LineStore.meaning c.args.text.now in
    let range = c.args.range in
    let m : length (seen_lines t) ≡ length t.lines = length-map t.lines seen in
    underway_start (substitution_view c.args.rule.now.substitution) (span_of range) t (range.first - 1) (omega (arith, range.some))
    (omega (arith, range.order, range.within, c.requires.count))

pub rewrite_line-done-requires-clause-fits : goal.rewrite_line-done-requires-clause-fits
rewrite_line-done-requires-clause-fits g c =
    let k = turn_of _ c.args.range _ _ c.loop.counter _ c.loop.invariant c.requires.count c.loop.auto.counter c.loop-test.true in
    fits_turn _ _ _ _ _ _ k c.requires.fits

pub rewrite_line-done-requires-clause-room : goal.rewrite_line-done-requires-clause-room
rewrite_line-done-requires-clause-room g c =
    let k = turn_of _ c.args.range _ _ c.loop.counter _ c.loop.invariant c.requires.count c.loop.auto.counter c.loop-test.true in
    room_turn _ _ _ _ _ _ k c.requires.room

pub loop-preserved : goal.loop-preserved
loop-preserved g c =
    let k = turn_of _ c.args.range _ _ c.loop.counter _ c.loop.invariant c.requires.count c.loop.auto.counter c.loop-test.true in
    let d = c.rewrite_line-done.ensures in
    under_turn _ _ _ _ _ _ k _ _ d.lines d.capacity d.done

pub returns-2 : goal.returns-2
returns-2 g c =
    let t = g.T.LineStore.meaning c.args.text.now in
    let range = c.args.range in
    let m : length (seen_lines t) ≡ length t.lines = length-map t.lines seen in
    let k = turn_of _ c.args.range _ _ c.loop.counter _ c.loop.invariant c.requires.count c.loop.auto.counter c.loop-test.true in
    let d = c.rewrite_line-done.ensures in
    let p = under_turn _ _ _ _ _ _ k _ _ d.lines d.capacity d.done in
    let e = underway_over _ _ _ _ _ _ p (omega arith) (omega (arith, range.within, c.requires.count)) in
    record {
      lines = e;
      capacity = p.capacity;
      front = ap (λ (ls : List Line). take (range.first - 1) ls) e ∙ front_kept c.args.rule.now.substitution range t c.requires.count;
    }
