use Rattle.std.proofs.Common.{◌≡◌, ◌-◌, length, sym, ap, ◌∙◌}
use Rattle.filing.specs.Contents.{file_in}
use Rattle.rules.specs.Commands.{Outcome, reading, accepted, loaded}
use Rattle.rules.specs.Printing.{numbered}
use Rattle.state.specs.Worlds.{world_of}
use Rattle.commanding.specs.Editing.{read_named}
use Rattle.commanding.proofs.Loading.{file-present, file_label, named-read}
use Rattle.commanding.proofs.reading_in.edit_named.Goals as goal

pub invariant_of-file : goal.invariant_of-file
invariant_of-file g c = record {
  there = file-present (g.S.Shelf.meaning c.args.shelf.now) c.args.name.now c.in-Some.file (sym c.in-Some.ensures);
}

pub read_in-requires-clause-label : goal.read_in-requires-clause-label
read_in-requires-clause-label g c =
    file_label (g.S.Shelf.meaning c.args.shelf.now) c.args.name.now c.in-Some.file (g.met.S.Shelf.sound c.args.shelf.now) (sym c.in-Some.ensures)

pub returns-clause-world : goal.returns-clause-world
returns-clause-world g c =
    let s = g.S.Shelf.meaning c.args.shelf.now in
    let w = world_of c.args.desk.now.session.now (g.T.LineStore.meaning c.args.desk.now.text.now) (g.K.LineStore.meaning c.args.desk.now.keep.now) s in
    let n = c.args.name.now in
    let sheet = c.args.sheet.now in
    let d : read_named (length sheet - 16) w n ≡ accepted reading (loaded w n (file_in s c.in-Some.file)) (numbered c.in_ok-size.size) =
    named-read (length sheet - 16) w n c.in-Some.file c.in_ok-size.size (sym c.in-Some.ensures) (sym c.in_ok-size.ensures) in
    c.read_in.ensures.world s ∙ sym (ap (λ (o : Outcome). o.world) d)
