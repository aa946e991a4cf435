use Rattle.command.specs.View.{chooser_view}
use Rattle.ranges.specs.Spans.{span_or}
use Rattle.rules.specs.Globals.{wanted}
use Rattle.choosing.proofs.Choosing.{Walked}
use Rattle.choosing.proofs.choose.choose.Given as goal

abbrev pub invariant-loop-i : goal.invariant-loop-i
invariant-loop-i g l =
    Walked (wanted (chooser_view l.wanting.chooser) (span_or l.wanting.range)) l.i l.chosen
    (g.T.LineStore.meaning l.initial.text) (g.T.LineStore.meaning l.text)
