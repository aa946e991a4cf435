use Rattle.std.proofs.Common.{◌≡◌, ◌≤◌, length, take, drop, ap, ◌∙◌, arith, rules}
use Rattle.std.proofs.lemmas.List.{length-drop, length-take-le}
use Rattle.lines.specs.Line.{holds_break}
use Rattle.filing.specs.Contents.{file_in}
use Rattle.filing.specs.Counting.{line_length}
use Rattle.filing.proofs.Loading.{LineRead, line_read}
use Rattle.filing.proofs.Splitting.{first_fits, first-within}
use Rattle.filing.proofs.reading_files.line_at.Goals as goal

pub slice_bounds-result-end : goal.slice_bounds-result-end
slice_bounds-result-end g c =
    let whole = file_in (g.S.Shelf.meaning c.args.file.now.shelf.now) c.args.file.now.file in
    let bytes = drop c.args.place whole in
    let some : 1 ≤ length bytes = omega (arith, length-drop c.args.place whole) in
    let fit = first_fits bytes some c.requires.fits in
    let chunk : c.read-bytes.result.now ≡ take 256 bytes = search rules in
    let within = (line_read bytes c.read-bytes.result.now c.line_length.result fit.short chunk c.line_length.ensures).within in
    search rules

pub invariant_of-result : goal.invariant_of-result
invariant_of-result g c =
    let whole = file_in (g.S.Shelf.meaning c.args.file.now.shelf.now) c.args.file.now.file in
    let bytes = drop c.args.place whole in
    let some : 1 ≤ length bytes = omega (arith, length-drop c.args.place whole) in
    let fit = first_fits bytes some c.requires.fits in
    let chunk : c.read-bytes.result.now ≡ take 256 bytes = search rules in
    let line : LineRead bytes c.read-bytes.result.now c.line_length.result =
    line_read bytes c.read-bytes.result.now c.line_length.result fit.short chunk c.line_length.ensures in
    let size = ap length line.bytes in
    let first = length-take-le (line_length bytes) bytes (first-within bytes) in
    let short = fit.short in
    record { short = omega arith; unbroken = ap holds_break line.bytes ∙ fit.unbroken }

pub returns : goal.returns
returns g c =
    let whole = file_in (g.S.Shelf.meaning c.args.file.now.shelf.now) c.args.file.now.file in
    let bytes = drop c.args.place whole in
    let some : 1 ≤ length bytes = omega (arith, length-drop c.args.place whole) in
    let fit = first_fits bytes some c.requires.fits in
    let chunk : c.read-bytes.result.now ≡ take 256 bytes = search rules in
    (line_read bytes c.read-bytes.result.now c.line_length.result fit.short chunk c.line_length.ensures).bytes
