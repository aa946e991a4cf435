use Rattle.std.proofs.Common.{◌∙◌, arith}
use Rattle.command.specs.View.{substitution_view}
use Rattle.substituting.proofs.Summing.{partial_start, partial_turn, partial_over}
use Rattle.substituting.proofs.reckoning.reckon_lines.Goals as goal
use Rattle.substituting.proofs.reckoning.reckon_lines.Goals.{else-loop-n-test, then-loop-n-test+else-n-n-end}

pub loop-n-init : goal.loop-n-init
loop-n-init g c =
    partial_start (substitution_view c.args.rule.now.substitution) c.args.range (g.T.LineStore.meaning c.args.text.now)
    (g.met.T.LineStore.sound c.args.text.now) c.requires

pub loop-n-preserved : goal.loop-n-preserved
loop-n-preserved g c =
    partial_turn (substitution_view c.args.rule.now.substitution) c.args.range (g.T.LineStore.meaning c.args.text.now) c.loop-n.sum c.with_line-sum.result c.loop-n.n
    c.loop-n.invariant c.requires c.loop-n.auto.n c.loop-n-test.true c.with_line-sum.ensures

pub returns : goal.returns
returns g c =
    let t = g.T.LineStore.meaning c.args.text.now in
    let s = c.args.rule.now.substitution in
    let range = c.args.range in
    elim c.loop-n-test.branch [
      | else-loop-n-test w ↦ absurd (omega (arith, c.loop-n.auto, range.order))
      | then-loop-n-test+else-n-n-end w ↦
          let p = partial_turn (substitution_view s) range t c.loop-n.sum c.loop-n-test.sum c.loop-n.n
          c.loop-n.invariant c.requires c.loop-n.auto.n w.loop-n-test.true (w.sum-is ∙ w.with_line-sum.ensures) in
          partial_over s range t c.loop-n-test.sum _ c.plus.result (g.met.T.LineStore.sound c.args.text.now) p c.requires (omega arith) c.plus.ensures
    ]
