use Rattle.std.proofs.Common.{◌≡◌, ◌+◌, [], ◌∷◌, ◌++◌, Ok, sym, ap, ◌∙◌, arith}
use Rattle.lines.specs.Store.{line_at}
use Rattle.shelf.specs.Shelf.{add_answer, add_after}
use Rattle.printing.proofs.Ranging.{left, left_next, left_none, left_range}
use Rattle.filing.proofs.Adding.{add_more, add_none}
use Rattle.filing.proofs.writing.add_lines.Goals as goal

pub loop-i-preserved : goal.loop-i-preserved
loop-i-preserved g c =
    let text = g.T.LineStore.meaning c.args.text.now in
    let was = g.S.Shelf.meaning c.loop-i.shelf in
    let is = g.S.Shelf.meaning c.add_line.new.shelf in
    let line = (line_at text (c.loop-i.i + 1)).text ++ (10 ∷ []) in
    let rest = left text (c.loop-i.i + 1) c.args.range.last in
    let step : left text c.loop-i.i c.args.range.last ≡ line ++ rest = left_next text c.loop-i.i c.args.range.last (omega arith) (omega arith) in
    let room : add_answer was c.args.file (line ++ rest) ≡ Ok tt = ap (add_answer was c.args.file) (sym step) ∙ c.loop-i.invariant.0 in
    let more = add_more was is c.args.file line rest room c.add_line.ensures in
    (more.answer, more.after ∙ (ap (add_after was c.args.file) (sym step) ∙ c.loop-i.invariant.1))

pub returns : goal.returns
returns g c =
    let text = g.T.LineStore.meaning c.args.text.now in
    let was = g.S.Shelf.meaning c.args.shelf.now in
    let is = g.S.Shelf.meaning c.loop-i.shelf in
    let none = left_none text c.loop-i.i c.args.range.last (omega arith) in
    let room : add_answer is c.args.file [] ≡ Ok tt = ap (add_answer is c.args.file) (sym none) ∙ c.loop-i.invariant.0 in
    sym (add_none is c.args.file room)
    ∙ (ap (add_after is c.args.file) (sym none)
    ∙ (c.loop-i.invariant.1 ∙ ap (add_after was c.args.file) (left_range text c.args.range.first c.args.range.last (omega arith))))
