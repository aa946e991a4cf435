use Rattle.std.proofs.Common.{ap, ◌∙◌}
use Rattle.filing.specs.Contents.{file_in}
use Rattle.filing.specs.Counting.{lines_of, fits_of}
use Rattle.filing.proofs.Splitting.{counted-lines, counted_fits}
use Rattle.filing.proofs.reading_files.tally_file.Goals as goal

pub returns : goal.returns
returns g c =
    let bytes = file_in (g.S.Shelf.meaning c.args.file.now.shelf.now) c.args.file.now.file in
    record {
      lines = c.lines.ensures ∙ (ap lines_of c.count_file-count.ensures.value ∙ counted-lines bytes);
      fits = c.all_fit.ensures ∙ (ap fits_of c.count_file-count.ensures.value ∙ counted_fits bytes);
    }
