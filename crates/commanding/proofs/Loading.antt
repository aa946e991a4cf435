-- A file read in: what its checks make sure of, the name that is remembered, and what `e` comes to step by step.
use Rattle.std.proofs.Common.{◌≡◌, ℕ, Bool, true, false, not, ◌&&◌, ◌||◌, leb, List, [], length, Some, None, Ok, Err, Option, refl, ap, ◌∙◌, subst}
use Rattle.std.proofs.lemmas.Bool.{lt-ltb}
use Rattle.shelf.specs.Label.{is_label}
use Rattle.shelf.specs.Name.{is_name, all_graphic}
use Rattle.shelf.specs.Shelf.{Shelf, Sound, present, lookup_answer}
use Rattle.shelf.proofs.Lookup.{found_name}
use Rattle.command.specs.declared.fault.Fault.TheVariants.{Unsaved, FileNotFound, TooManyLines, LineTooLong, SheetFull}
use Rattle.command.specs.Said.{FileName}
use Rattle.reading.specs.Read.{Read, ◌>>=◌}
use Rattle.filing.specs.Contents.{file_in}
use Rattle.rules.specs.Checks.{◌>>◌, check, or_fault}
use Rattle.rules.specs.Commands.{Outcome, reading, accepted, or_refusal, loaded, edited}
use Rattle.lines.specs.Line.{all_fit}
use Rattle.rules.specs.Effects.{name_of}
use Rattle.rules.specs.Doing.{short}
use Rattle.filing.proofs.Splitting.{short_split}
use Rattle.rules.specs.Files.{contents_of, contents_by, split}
use Rattle.rules.specs.Printing.{numbered}
use Rattle.rules.specs.World.{World}
use Rattle.commanding.specs.Editing.{readable, read_as, read_named}

-- the file of a name

pub file-present : (s : Shelf) (n : List ℕ) (i : ℕ) → lookup_answer s n ≡ Some i → present s i ≡ true
file-present s n i e = lt-ltb i (length s.files) (found_name s n i e).0

front_true : (a b : Bool) → (a && b) ≡ true → a ≡ true
front_true true b e = refl
front_true false b e = e

-- a shelf has good names only, and these are short enough to be remembered
pub file_label : (s : Shelf) (n : List ℕ) (i : ℕ) → Sound s → lookup_answer s n ≡ Some i → is_label n ≡ true
file_label s n i sound e =
    let found = found_name s n i e in
    let good : is_name n ≡ true = subst (λ (m : List ℕ). is_name m ≡ true) found.1 (sound.named i found.0) in
    front_true (is_label n) (all_graphic n) good

-- `e`, step by step

pub named-read : (room : ℕ) (w : World) (f : List ℕ) (i n : ℕ) → lookup_answer w.shelf f ≡ Some i → readable w.capacity room (file_in w.shelf i) ≡ Ok n
    → read_named room w f ≡ accepted reading (loaded w f (file_in w.shelf i)) (numbered n)
named-read room w f i n e r =
    ap (λ (o : Option ℕ). read_as room w f (contents_by w.shelf o)) e
    ∙ ap (λ (x : Read ℕ). or_refusal w x (λ m. accepted reading (loaded w f (file_in w.shelf i)) (numbered m))) r

abbrev checked_in : Bool → Bool → Bool → World → Read World
checked_in a b d v = check a TooManyLines >> (check b LineTooLong >> (check d SheetFull >> Ok v))

by_checks : (w v : World) (a b d : Bool) (n : ℕ)
    → or_refusal w (checked_in a b d v) (λ u. accepted reading u (numbered n))
    ≡ or_refusal w (check a TooManyLines >> (check b LineTooLong >> (check d SheetFull >> Ok n))) (λ m. accepted reading v (numbered m))
by_checks w v true true true n = refl
by_checks w v true true false n = refl
by_checks w v true false d n = refl
by_checks w v false b d n = refl

abbrev size_in : Option (List ℕ) → List ℕ
size_in o = elim o [ None ↦ [] | Some c ↦ numbered (length c) ]

by_contents : (room : ℕ) (w : World) (f : List ℕ) (o : Option (List ℕ))
    → or_refusal w (or_fault FileNotFound o >>= λ c. checked_in (leb (length (split c)) w.capacity) (short (split c)) (leb (length (numbered (length c))) room) (loaded w f c)) (λ u. accepted reading u (size_in o))
    ≡ read_as room w f o
by_contents room w f None = refl
by_contents room w f (Some c) =
    ap (λ (b : Bool). or_refusal w (checked_in (leb (length (split c)) w.capacity) b (leb (length (numbered (length c))) room) (loaded w f c)) (λ u. accepted reading u (numbered (length c)))) (short_split c)
    ∙ by_checks w (loaded w f c) (leb (length (split c)) w.capacity) (all_fit (split c)) (leb (length (numbered (length c))) room) (length c)

-- saved text and a known name
abbrev edited_by : ℕ → World → Read (Unit {0}) → Read (List ℕ) → Outcome
edited_by room w saved name = or_refusal w (saved >> (name >>= λ f. or_fault FileNotFound (contents_of w.shelf f) >>= λ c. checked_in (leb (length (split c)) w.capacity) (short (split c)) (leb (length (numbered (length c))) room) (loaded w f c)))
    (λ u. accepted reading u (elim name [ Err x ↦ [] | Ok f ↦ size_in (contents_of w.shelf f) ]))

pub edited-named : (room : ℕ) (w : World) (n : FileName) (f : List ℕ) → check (w.warned || not w.unsaved) Unsaved ≡ Ok tt → name_of w n ≡ Ok f
    → edited room w n ≡ read_named room w f
edited-named room w n f saved name =
    let shape : edited room w n ≡ edited_by room w (check (w.warned || not w.unsaved) Unsaved) (name_of w n) = refl in
    shape ∙ ap (λ (x : Read (Unit {0})). edited_by room w x (name_of w n)) saved ∙ ap (edited_by room w (Ok tt)) name ∙ by_contents room w f (contents_of w.shelf f)
