-- What a guard means: the shelf below it, which protects also each name that begins with the guard's prefix.
use Rattle.std.specs.Prelude.{ℕ, ◌||◌, List}
use Rattle.shelf.specs.Name.{begins}
use Rattle.shelf.specs.Shelf.{Shelf}

abbrev pub guarded : Shelf → List ℕ → Shelf
guarded s prefix = record { files = s.files; capacity = s.capacity; protects = λ n. begins prefix n || s.protects n }
