use Rattle.std.proofs.Common.{◌+◌, [], ◌∷◌, ◌++◌, length, sym, ap, ◌∙◌, arith}
use Rattle.std.proofs.lemmas.List.{length_push}
use Rattle.lines.specs.Store.{line_at}
use Rattle.printing.specs.Sheets.{written}
use Rattle.printing.proofs.Ranging.{left, left_none, left_range, left_next, left_length}
use Rattle.printing.proofs.Sheets.{written_none, written_first}
use Rattle.printing.proofs.listing.print_lines.Goals as goal

pub print_line-place-requires : goal.print_line-place-requires
print_line-place-requires g c =
    let s = g.T.LineStore.meaning c.args.text.now in
    let all = ap length (left_range s c.args.range.first c.args.range.last (omega arith)) in
    let next = left_length s c.loop-i.i c.args.range.last (omega arith) (omega arith) in
    omega arith

pub loop-i-preserved : goal.loop-i-preserved
loop-i-preserved g c =
    let s = g.T.LineStore.meaning c.args.text.now in
    let all = ap length (left_range s c.args.range.first c.args.range.last (omega arith)) in
    let next = left_length s c.loop-i.i c.args.range.last (omega arith) (omega arith) in
    let line = (line_at s (c.loop-i.i + 1)).text in
    let sized = length_push line 10 in (
      omega arith,
      written_first c.loop-i.sheet c.print_line-place.new.sheet c.loop-i.place c.print_line-place.result
          (line ++ (10 ∷ [])) (left s (c.loop-i.i + 1) c.args.range.last) (left s c.loop-i.i c.args.range.last)
          c.print_line-place.ensures.after (omega arith) (omega arith)
          (left_next s c.loop-i.i c.args.range.last (omega arith) (omega arith))
          ∙ c.loop-i.invariant.1,
    )

pub returns : goal.returns
returns g c =
    let s = g.T.LineStore.meaning c.args.text.now in
    let all = ap length (left_range s c.args.range.first c.args.range.last (omega arith)) in
    let none = left_none s c.loop-i.i c.args.range.last (omega arith) in
    let short = ap length none in
    written_none c.loop-i.sheet c.loop-i.place (omega arith)
    ∙ ap (written c.loop-i.sheet c.loop-i.place) (sym none)
    ∙ c.loop-i.invariant.1
    ∙ ap (written c.args.sheet.now c.args.at) (left_range s c.args.range.first c.args.range.last (omega arith))
