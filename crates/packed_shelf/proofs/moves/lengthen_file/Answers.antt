use Rattle.std.proofs.Common.{ℕ, ◌+◌, ◌-◌, List, length, ap, ◌∙◌, arith}
use borrow.Rule.Slice.PartMut.{put_mid}
use Rattle.packed_shelf.specs.Moved.{total_all, end_is, behind_is, rows_lengthened_lem, bytes_lengthened_lem}
use Rattle.packed_shelf.proofs.moves.lengthen_file.Goals as goal

pub overflow_add-end : goal.overflow_add-end
overflow_add-end c =
    let rows = c.args.rows.now in
    let b = behind_is rows c.args.place c.index-rows-place.result c.requires.within c.index-rows-place.is in
    omega arith

pub overflow_sub-used : goal.overflow_sub-used
overflow_sub-used c =
    let rows = c.args.rows.now in
    let a = total_all rows in
    let b = behind_is rows c.args.place c.index-rows-place.result c.requires.within c.index-rows-place.is in
    omega arith

pub overflow_add-end-2 : goal.overflow_add-end-2
overflow_add-end-2 c =
    let rows = c.args.rows.now in
    let b = behind_is rows c.args.place c.index-rows-place.result c.requires.within c.index-rows-place.is in
    omega arith

pub slice_bounds-copy_from_slice-end : goal.slice_bounds-copy_from_slice-end
slice_bounds-copy_from_slice-end c =
    let rows = c.args.rows.now in
    let b = behind_is rows c.args.place c.index-rows-place.result c.requires.within c.index-rows-place.is in
    omega arith

pub overflow_add-rows : goal.overflow_add-rows
overflow_add-rows c =
    let rows = c.args.rows.now in
    let e = end_is rows c.args.place c.index-rows-place.result c.requires.within c.index-rows-place.is in
    let b = behind_is rows c.args.place c.index-rows-place.result c.requires.within c.index-rows-place.is in
    omega arith

pub returns : goal.returns
returns c =
    let rows = c.args.rows.now in
    let more = c.args.more.now in
    let end = c.start_of-end.result in
    let r = c.index-rows-place.result in
    record {
      rows = rows_lengthened_lem rows c.args.place r c.requires.within c.index-rows-place.is (length more);
      bytes =
          ap (λ (xs : List ℕ). put_mid end (end + length more - end) c.shift.new.s xs) c.copy_from_slice.ensures.after
          ∙ (ap (λ (xs : List ℕ). put_mid end (end + length more - end) xs more) c.shift.ensures.after
          ∙ bytes_lengthened_lem rows c.args.place r c.requires.within c.index-rows-place.is c.args.bytes.now c.start_of-used.result
          (c.start_of-used.ensures ∙ total_all rows) more c.requires.fits end c.start_of-end.ensures);
    }
