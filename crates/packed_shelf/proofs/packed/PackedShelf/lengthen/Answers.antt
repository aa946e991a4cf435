use Rattle.std.proofs.Common.{ℕ, ◌+◌, ◌≤◌, length, vec_items, refl, arith, rules}
use Rattle.packed_shelf.specs.declared.packed.PackedShelf.{PackedShelf}
use Rattle.packed_shelf.specs.Meaning.{meaning_of}
use Rattle.packed_shelf.specs.Rows.{total, number_at}
use Rattle.packed_shelf.specs.Kept.{held_is}
use Rattle.packed_shelf.specs.State.{kept, longer_left}
use Rattle.packed_shelf.proofs.packed.PackedShelf.lengthen.Goals as goal
use Rattle.shelf.specs.Shelf.{held}

-- the room that is asked for, in rows and bytes
room-from : (s : PackedShelf) (n : ℕ) → held (meaning_of s).files + n ≤ (meaning_of s).capacity → total (vec_items s.rows) + n ≤ length (vec_items s.bytes)
room-from s n h = let e = held_is (vec_items s.rows) (vec_items s.bytes) (kept s) in omega arith

pub lengthen_file-requires : goal.lengthen_file-requires
lengthen_file-requires c =
    let s = c.args.self.now in
    let room = room-from s (length c.args.more.now) c.requires.fits in
    let bounded = s.bounded in
    search rules

pub invariant_of-self : goal.invariant_of-self
invariant_of-self c =
    let s = c.args.self.now in
    let more = c.args.more.now in
    let p = c.args.place in
    let k = (longer_left s (number_at (vec_items s.rows) p) p (record { within = c.requires.within; number = refl }) _ c.lengthen_file.new.rows _ c.lengthen_file.new.bytes
    c.deref_mut.ensures.value c.deref_mut-2.ensures.value more (room-from s (length more) c.requires.fits) c.lengthen_file.ensures.rows c.lengthen_file.ensures.bytes).0 in
    record {
      few = k.few;
      reserved = s.reserved;
      bounded = k.bounded;
      within = k.within;
      numbered = k.numbered;
      named = k.named;
      apart = k.apart;
    }

pub returns : goal.returns
returns c =
    let s = c.args.self.now in
    let more = c.args.more.now in
    let p = c.args.place in
    (longer_left s (number_at (vec_items s.rows) p) p (record { within = c.requires.within; number = refl }) _ c.lengthen_file.new.rows _ c.lengthen_file.new.bytes
    c.deref_mut.ensures.value c.deref_mut-2.ensures.value more (room-from s (length more) c.requires.fits) c.lengthen_file.ensures.rows c.lengthen_file.ensures.bytes).1
