use Rattle.std.proofs.Common.{◌+◌, ◌-◌, vec_items, refl, arith, rules}
use Rattle.gap_store.specs.Meaning.{meaning_of}
use Rattle.gap_store.specs.Stored.{Are, meaning_as, count_of, offset_within, moved_lines}
use Rattle.gap_store.proofs.store.GapStore.bring.Goals as goal

pub slide-offset-requires-clause-within : goal.slide-offset-requires-clause-within
unfolding meaning_of
slide-offset-requires-clause-within c = let count = count_of c.args.self.now in search rules

pub slide-requires : goal.slide-requires
unfolding meaning_of
slide-requires c =
    let s = c.args.self.now in
    let here = c.slide-offset.ensures.slid.here in
    let within = offset_within s c.args.at in
    omega arith

pub returns-clause-same : goal.returns-clause-same
unfolding meaning_of
returns-clause-same c =
    let s = c.args.self.now in
    let rows = vec_items c.slide-offset.new.rows.all in
    let bytes = vec_items c.slide.new.self.all in
    let m = c.args.at + (s.rows.end - s.rows.start) in
    let o = c.slide-offset.result + (s.bytes.end - s.bytes.start) in
    let slid = c.slide-offset.ensures.slid in
    let are : Are c.slide-offset.new.rows c.slide.new.self rows c.args.at m bytes c.slide-offset.result o =
    record { rows_all = refl; rows_start = c.slide-offset.ensures.start; rows_end = c.slide-offset.ensures.end; bytes_all = refl; bytes_start = c.slide.ensures.start; bytes_end = c.slide.ensures.end }
    in
    let same = moved_lines s rows bytes c.args.at m c.slide-offset.result o slid.same c.slide.ensures.same in
    let whole = meaning_as are in
    search rules
