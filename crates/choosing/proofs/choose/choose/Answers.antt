use Rattle.std.proofs.Common.{◌≡◌, ◌+◌, arith}
use Rattle.command.specs.View.{chooser_view}
use Rattle.ranges.specs.Spans.{span_or}
use Rattle.rules.specs.Globals.{wanted, one_if}
use Rattle.choosing.proofs.Choosing.{walked_more, walked_lines, walked_count, one_more, none_more}
use Rattle.choosing.proofs.choose.choose.Goals as goal
use Rattle.choosing.proofs.choose.choose.Goals.{then-choose_line, else-choose_line}

pub choose_line-requires : goal.choose_line-requires
choose_line-requires g c = let w = c.loop-i.invariant.size in (omega arith, omega arith)

pub loop-i-preserved : goal.loop-i-preserved
loop-i-preserved g c =
    let one : c.if-choose_line.chosen ≡ c.loop-i.chosen + one_if c.choose_line.result =
    elim c.if-choose_line.branch [
      | then-choose_line w ↦ one_more c.choose_line.result _ _ w.if-choose_line.true w.chosen-is
      | else-choose_line w ↦ none_more c.choose_line.result _ _ w.if-choose_line.false w.chosen-is
    ] in
    walked_more (wanted (chooser_view c.new-wanting.result.chooser) (span_or c.new-wanting.result.range)) c.loop-i.i _ _ _ _ _ c.choose_line.result
    c.loop-i.invariant (omega arith) c.choose_line.ensures.value c.choose_line.ensures.lines c.choose_line.ensures.size
    c.choose_line.ensures.capacity one

pub returns : goal.returns
returns g c =
    let want = wanted (chooser_view c.new-wanting.result.chooser) (span_or c.new-wanting.result.range) in
    let lines = walked_lines want c.loop-i.i _ _ _ c.loop-i.invariant (omega arith) in
    record {
      lines = rw (c.new-wanting.ensures.range, c.new-wanting.ensures.chooser) at lines;
      count = walked_count want c.loop-i.i _ _ _ c.loop-i.invariant (omega arith);
      capacity = c.loop-i.invariant.capacity;
      size = c.loop-i.invariant.size;
    }
