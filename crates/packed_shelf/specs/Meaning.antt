-- What a packed shelf means.
use Rattle.std.specs.Prelude.{vec_items}
use Rattle.shelf.specs.Shelf.{Shelf}
use Rattle.packed_shelf.specs.declared.packed.PackedShelf.{PackedShelf}
use Rattle.packed_shelf.specs.Packed.{packed}

abbrev pub meaning_of : PackedShelf → Shelf
meaning_of s = packed (vec_items s.rows) (vec_items s.bytes)
