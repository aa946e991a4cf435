use Rattle.std.proofs.Common.{◌+◌, ◌<◌, length, arith, rules}
use Rattle.lines.specs.Line.{Line}
use Rattle.lines.specs.Store.{line_at}
use Rattle.editing.proofs.Filling.{unchosen-line, filled, filled_all}
use Rattle.editing.proofs.keeping.fill_keep.Goals as goal

pub loop-i-preserved : goal.loop-i-preserved
loop-i-preserved g c =
    let t = g.T.LineStore.meaning c.args.text.now in
    let here = line_at t (c.loop-i.i + 1) in
    let same = unchosen-line here _ _ c.tag.ensures.value c.without_chosen.ensures.seen in
    let l : Line = record { text = here.text; tag = c.without_chosen.result } in
    let le : c.loop-i.i < length t.lines = omega arith in
    filled _ t _ _ c.loop-i.i l le c.copy_line.ensures same c.loop-i.invariant

pub copy_line-requires : goal.copy_line-requires
copy_line-requires g c = let s = g.met.T.LineStore.sound c.args.text.now in search rules

pub returns : goal.returns
returns g c = search (rules, filled_all)
