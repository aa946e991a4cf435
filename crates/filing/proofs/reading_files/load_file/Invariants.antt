use Rattle.std.proofs.Common.{◌≡◌, ◌-◌, map}
use Rattle.rules.specs.Files.{split}
use Rattle.rules.specs.Lines.{created}
use Rattle.filing.specs.Contents.{file_in}
use Rattle.filing.proofs.Loading.{Loaded}
use Rattle.filing.proofs.reading_files.load_file.Given as goal

abbrev pub invariant-loop-next : goal.invariant-loop-next
invariant-loop-next g l =
    let is = g.T.LineStore.meaning l.text in
    let whole = file_in (g.S.Shelf.meaning l.file.shelf.now) l.file.file in
    Loaded (map created (split whole)) is l.next whole
    × (is.capacity ≡ (g.T.LineStore.meaning l.initial.text).capacity)

abbrev pub decreases-loop-next : goal.decreases-loop-next
decreases-loop-next g l = l.size - l.next
