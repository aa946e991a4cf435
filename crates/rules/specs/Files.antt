-- Files: what the shelf answers to a whole file written, and the lines of a file read.
use Rattle.std.specs.Prelude.{ℕ, true, false, List, [], ◌∷◌, length, Some, None, Ok, Err, Option, Result, ◌==◌}
use Rattle.shelf.specs.declared.fault.ShelfFault.{ShelfFault}
use Rattle.shelf.specs.Shelf.{Shelf, contents_at, lookup_answer, clear_answer, clear_after, add_after}
use Rattle.command.specs.Shelves.{shelf_fault}
use Rattle.reading.specs.Read.{Read}

-- the name cleared for the new contents, and these put in
abbrev pub filed_by : Shelf → List ℕ → List ℕ → Result ℕ ShelfFault → Read Shelf
filed_by s name contents (Err f) = Err (shelf_fault f)
filed_by s name contents (Ok i) = Ok (add_after (clear_after s name (length contents)) i contents)

abbrev pub filed : Shelf → List ℕ → List ℕ → Read Shelf
filed s name contents = filed_by s name contents (clear_answer s name (length contents))

abbrev pub contents_by : Shelf → Option ℕ → Option (List ℕ)
contents_by s None = None
contents_by s (Some i) = Some (contents_at s.files i)

-- what the file of a name holds
abbrev pub contents_of : Shelf → List ℕ → Option (List ℕ)
contents_of s name = contents_by s (lookup_answer s name)

-- contents split at each byte 10; a last piece without it is a line too, unless it is empty
abbrev pub on_first : ℕ → List (List ℕ) → List (List ℕ)
on_first b [] = (b ∷ []) ∷ []
on_first b (l ∷ ls) = (b ∷ l) ∷ ls

abbrev pub split : List ℕ → List (List ℕ)
split [] = []
split (b ∷ bs) = elim (b == 10) [ true ↦ [] ∷ split bs | false ↦ on_first b (split bs) ]
