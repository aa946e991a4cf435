use Rattle.std.proofs.Common.{◌-◌, List, length, set, ap, ◌∙◌, arith}
use Rattle.packed_shelf.specs.declared.row.Row.{Row}
use Rattle.packed_shelf.specs.Moves.{sized}
use Rattle.packed_shelf.specs.Moved.{total_all, behind_is, rows_emptied_lem, bytes_emptied_lem}
use Rattle.packed_shelf.proofs.moves.empty_file.Goals as goal

pub overflow_sub-used : goal.overflow_sub-used
overflow_sub-used c =
    let rows = c.args.rows.now in
    let a = total_all rows in
    let b = behind_is rows c.args.place c.index-rows-place.result c.requires.within c.index-rows-place.is in
    omega arith

pub returns : goal.returns
returns c =
    let rows = c.args.rows.now in
    let r = c.index-rows-place.result in
    record {
      rows =
          ap (λ (xs : List Row). set xs (length rows - 1) (sized 0 r)) c.shift-2.ensures.after
          ∙ rows_emptied_lem rows c.args.place r c.requires.within c.index-rows-place.is;
      bytes =
          c.shift.ensures.after
          ∙ bytes_emptied_lem rows c.args.place r c.requires.within c.index-rows-place.is c.args.bytes.now c.start_of-used.result
          (c.start_of-used.ensures ∙ total_all rows) c.requires.fits c.start_of-start.result c.start_of-end.result c.start_of-start.ensures c.start_of-end.ensures;
    }
