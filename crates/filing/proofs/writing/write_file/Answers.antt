use Rattle.std.proofs.Common.{sym, ◌∙◌}
use Rattle.filing.specs.Contents.{contents_from}
use Rattle.filing.proofs.Adding.{cleared_takes}
use Rattle.filing.proofs.writing.write_file.Goals as goal

pub add_range-requires : goal.add_range-requires
add_range-requires g c =
    let was = g.S.Shelf.meaning c.args.shelf.now in
    let is = g.S.Shelf.meaning c.clear.new.self in
    let contents = contents_from c.args.range (g.T.LineStore.meaning c.args.text.now) in
    record {
      count = c.requires.count;
      room = cleared_takes was is c.args.name.now c.args.size c.in_ok-file.file contents
          (sym c.in_ok-file.was ∙ c.clear.ensures.value) c.clear.ensures.after c.requires.size;
    }
