-- What each command that a list may hold would do: its lines worked out and checked, nothing reckoned or altered yet.
use Rattle.std.specs.Prelude.{ℕ, suc, ◌+◌, ◌-◌, Bool, true, false, cond, ◌&&◌, ◌||◌, List, [], ◌∷◌, ◌++◌, length, Ok, ◌==◌, nat_le, nat_lt}
use Rattle.command.specs.declared.fault.Fault.TheVariants.{NoMatch, DestinationInRange, NoName}
use Rattle.command.specs.Marks.{bit_of}
use Rattle.reading.specs.Read.{Read, ◌>>=◌}
use Rattle.command.specs.Said.{Addresses, FileName, remembered_name, given_name, Substitution, Action, delete_lines, mark_line, move_lines, print_lines, print_next, print_number, substitute, write_file}
use Rattle.rules.specs.Checks.{◌>>◌, or_fault, check}
use Rattle.rules.specs.Addresses.{Range, to, line_of, range_of, whole_or, one_line}
use Rattle.rules.specs.Lines.{Line, Page, picked, from_to, created}
use Rattle.rules.specs.Patterns.{matches, substituted}
use Rattle.rules.specs.Pieces.{Piece, old, stay, news, placed, last_new}
use Rattle.rules.specs.Printing.{numbered, printed}
use Rattle.rules.specs.World.{World}

pub data Effect : Type 0 where
  -- the current line afterwards, and what is printed
  shows : ℕ → List ℕ → Effect
  -- the text afterwards, its current line, and what is printed
  alters : List Piece → ℕ → List ℕ → Effect
  -- the line that gets a mark, and the mark
  marks : ℕ → ℕ → Effect
  -- a file's name and new contents, whether that is the whole text, and what is printed
  files : List ℕ → List ℕ → Bool → List ℕ → Effect

abbrev pub current_range : Page → Range
current_range g = to g.current g.current

-- lines deleted: the current line is the one behind, else the new last one
abbrev pub deletes : Page → Range → Effect
deletes g r =
    alters (stay 1 (r.first - 1) ++ stay (suc r.final) (length g.lines))
    (cond (nat_lt r.final (length g.lines)) r.first (r.first - 1)) []

-- lines moved behind line t, which is not one of them; the last of them is current
abbrev pub moves : Page → Range → ℕ → Effect
moves g r t =
    elim (nat_lt t r.first) [
      | true ↦ alters (stay 1 t ++ (stay r.first r.final ++ (stay (suc t) (r.first - 1) ++ stay (suc r.final) (length g.lines))))
          (t + (suc r.final - r.first)) []
      | false ↦ alters (stay 1 (r.first - 1) ++ (stay (suc r.final) t ++ (stay r.first r.final ++ stay (suc t) (length g.lines)))) t []
    ]

-- the lines of a range that match are made anew, the others stay
abbrev pub rewritten : Substitution → Range → ℕ → List Line → List Piece
rewritten s r n [] = []
rewritten s r n (l ∷ ls) =
    elim (nat_le r.first n && nat_le n r.final && matches s.sought l.text) [
      | true ↦ news (substituted s l.text) ++ rewritten s r (suc n) ls
      | false ↦ old n ∷ rewritten s r (suc n) ls
    ]

abbrev pub name_of : World → FileName → Read (List ℕ)
name_of w remembered_name = or_fault NoName w.name
name_of w (given_name n) = Ok n

unfoldable pub effect_of : World → Addresses → Action → Read Effect
effect_of w a delete_lines = do
  r ← range_of w.text a (current_range w.text)
  Ok (deletes w.text r)
effect_of w a (mark_line m) = do
  n ← one_line w.text a w.text.current false
  Ok (marks n (bit_of m))
effect_of w a (move_lines d) = do
  r ← range_of w.text a (current_range w.text)
  t ← line_of w.text d
  check (nat_lt t r.first || nat_lt r.final t) DestinationInRange
  Ok (moves w.text r t)
effect_of w a print_lines = do
  r ← range_of w.text a (current_range w.text)
  Ok (shows r.final (printed (from_to r.first r.final w.text.lines)))
effect_of w a print_next = do
  n ← one_line w.text a (suc w.text.current) false
  Ok (shows n (printed (picked w.text.lines n)))
effect_of w a print_number = do
  n ← one_line w.text a (length w.text.lines) true
  Ok (shows w.text.current (numbered n))
effect_of w a (substitute s) = do
  r ← range_of w.text a (current_range w.text)
  let ps : List Piece = rewritten s r 1 w.text.lines
  let n : ℕ = last_new 0 0 ps
  check (nat_le 1 n) NoMatch
  Ok (alters ps n (cond s.print (printed (picked (placed created w.text.lines ps) n)) []))
effect_of w a (write_file f) = do
  r ← whole_or w.text a
  n ← name_of w f
  let c : List ℕ = printed (from_to r.first r.final w.text.lines)
  Ok (files n c (r.first == 1 && r.final == length w.text.lines) (numbered (length c)))
