use Rattle.std.proofs.Common.{◌≤◌, length, drop, ap, arith, lit<, rules}
use Rattle.std.proofs.lemmas.List.{length-drop, length-take-le}
use Rattle.lines.specs.Store.{Store}
use Rattle.filing.specs.Contents.{file_in}
use Rattle.filing.specs.Counting.{line_length, first_line}
use Rattle.filing.proofs.Loading.{file-bounded, put_last}
use Rattle.filing.proofs.Splitting.{split_first, first-within}
use Rattle.filing.proofs.reading_files.load_line.Goals as goal

pub put_line-requires : goal.put_line-requires
put_line-requires g c =
    let whole = file_in (g.S.Shelf.meaning c.args.file.now.shelf.now) c.args.file.now.file in
    let bytes = drop c.args.place whole in
    let some : 1 ≤ length bytes = omega (arith, length-drop c.args.place whole) in
    let cut = ap length (split_first bytes some) in
    record { place = omega arith; room = omega arith; defined = lit< tt }

pub overflow_add-result : goal.overflow_add-result
overflow_add-result g c =
    let bound = file-bounded (g.S.Shelf.meaning c.args.file.now.shelf.now) c.args.file.now.file (g.met.S.Shelf.sound c.args.file.now.shelf.now) c.args.file.now.there in
    search rules

pub overflow_add-result-2 : goal.overflow_add-result-2
overflow_add-result-2 g c =
    let bound = file-bounded (g.S.Shelf.meaning c.args.file.now.shelf.now) c.args.file.now.file (g.met.S.Shelf.sound c.args.file.now.shelf.now) c.args.file.now.there in
    search rules

pub returns : goal.returns
returns g c =
    let was = g.T.LineStore.meaning c.args.text.now in
    let is = g.T.LineStore.meaning c.put_line.new.text in
    let bytes = drop c.args.place (file_in (g.S.Shelf.meaning c.args.file.now.shelf.now) c.args.file.now.file) in
    let size = ap length c.line_at-line.ensures in
    let first = length-take-le (line_length bytes) bytes (first-within bytes) in
    record {
      next = omega arith;
      lines = put_last was is c.count.result c.line_at-line.result.bytes.now (first_line bytes)
          c.count.ensures c.put_line.ensures c.line_at-line.ensures;
      capacity = ap (λ (s : Store). s.capacity) c.put_line.ensures;
    }
