use Rattle.std.proofs.Common.{◌≡◌, ◌+◌, take, drop, sym, ap, ◌∙◌, arith, rules}
use Rattle.std.proofs.lemmas.List.{at_drop_all, length-take}
use Rattle.filing.specs.declared.count.Count.{Count}
use Rattle.filing.specs.Contents.{file_in}
use Rattle.filing.specs.Counting.{counted, uncounted}
use Rattle.filing.proofs.Loading.{ended-bounded, counted_chunk}
use Rattle.filing.proofs.Splitting.{counted-bounds}
use Rattle.filing.proofs.reading_files.count_file.Goals as goal

pub loop-place-preserved : goal.loop-place-preserved
loop-place-preserved g c =
    let bytes = file_in (g.S.Shelf.meaning c.args.file.now.shelf.now) c.args.file.now.file in
    let chunk = take 256 (drop c.loop-place.place bytes) in
    let bounds = counted-bounds c.loop-place.count chunk in
    let size = length-take 256 (drop c.loop-place.place bytes) in
    let is : c.with_bytes-count.result ≡ counted c.loop-place.count chunk = search rules in
    let ended = ap (λ (x : Count). x.ended) is in
    let pending = ap (λ (x : Count). x.pending) is in (
      ap (λ (x : Count). counted x (drop (c.loop-place.place + 256) bytes)) is
          ∙ (counted_chunk c.loop-place.count c.loop-place.place bytes ∙ c.loop-place.invariant.0),
      omega (arith, bounds),
      omega (arith, bounds),
    )

pub returns-clause-bounded : goal.returns-clause-bounded
returns-clause-bounded g c =
    let s = g.S.Shelf.meaning c.args.file.now.shelf.now in
    let bytes = file_in s c.args.file.now.file in
    let none = at_drop_all (counted c.loop-place.count) bytes c.loop-place.place (omega arith) in
    ended-bounded s c.args.file.now.file c.loop-place.count (g.met.S.Shelf.sound c.args.file.now.shelf.now) c.args.file.now.there
    (sym none ∙ c.loop-place.invariant.0)

all_counted : (g : _) (c : goal.Else-place-end-place-gt256 g) → c.with_bytes-count.result ≡ counted uncounted (file_in (g.S.Shelf.meaning c.args.file.now.shelf.now) c.args.file.now.file)
all_counted g c =
    let bytes = file_in (g.S.Shelf.meaning c.args.file.now.shelf.now) c.args.file.now.file in
    let chunk = take 256 (drop c.loop-place.place bytes) in
    let is : c.with_bytes-count.result ≡ counted c.loop-place.count chunk = search rules in
    let none = at_drop_all (counted (counted c.loop-place.count chunk)) bytes (c.loop-place.place + 256) (omega arith) in
    is ∙ sym none ∙ counted_chunk c.loop-place.count c.loop-place.place bytes ∙ c.loop-place.invariant.0

pub returns-2-clause-value : goal.returns-2-clause-value
returns-2-clause-value g c = all_counted g c

pub returns-2-clause-bounded : goal.returns-2-clause-bounded
returns-2-clause-bounded g c =
    ended-bounded (g.S.Shelf.meaning c.args.file.now.shelf.now) c.args.file.now.file c.with_bytes-count.result
    (g.met.S.Shelf.sound c.args.file.now.shelf.now) c.args.file.now.there (all_counted g c)
