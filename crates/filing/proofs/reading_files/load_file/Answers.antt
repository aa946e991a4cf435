use Rattle.std.proofs.Common.{◌∙◌, arith}
use Rattle.filing.specs.Contents.{file_in}
use Rattle.filing.proofs.Loading.{loaded_more}
use Rattle.filing.proofs.reading_files.load_file.Goals as goal

pub loop-next-preserved : goal.loop-next-preserved
loop-next-preserved g c =
    let whole = file_in (g.S.Shelf.meaning c.args.file.now.shelf.now) c.args.file.now.file in
    let was = g.T.LineStore.meaning c.loop-next.text in
    let is = g.T.LineStore.meaning c.load_line-next.new.text in
    let done = c.load_line-next.ensures in (
      loaded_more _ was is c.loop-next.next c.load_line-next.result whole (omega arith) done.next done.lines done.capacity c.loop-next.invariant.0,
      done.capacity ∙ c.loop-next.invariant.1,
    )
