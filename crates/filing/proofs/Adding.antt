-- Bytes added to a file of a shelf bit by bit, and a file cleared so that there is room for them.
use Rattle.std.proofs.Common.{◌≡◌, ℕ, ◌+◌, ◌<◌, ◌≤◌, false, cond, List, [], ◌++◌, length, get_or, set, is_ok, Some, None, Ok, Option, Result, unwrap_or, sym, refl, ap, ◌∙◌, arith}
use Rattle.std.proofs.lemmas.List.{append-nil, append_assoc, length-append, length_push, length-set, get_or-set_same, get_or_push, set-set, set-get_or}
use Rattle.std.proofs.lemmas.List.Sums.{sum_by-set}
use Rattle.std.proofs.lemmas.Bool.{lt-ltb, le-leb}
use Rattle.std.proofs.lemmas.Bool.Decides.{nat_tests}
use Rattle.shelf.specs.declared.fault.ShelfFault.{ShelfFault}
use Rattle.shelf.specs.Shelf.{File, Shelf, empty_file, no_file, with_files, name_at, contents_at, held, lookup_answer, emptied, cleared, clear_answer, clear_after, add_answer, added, add_after}
use Rattle.shelf.proofs.Lookup.{found_name}

-- what is known where a file takes so many bytes
pub record Takes (s : Shelf) (i n : ℕ) : Type 0 where
  pub here : i < length s.files
  pub free : s.protects (name_at s.files i) ≡ false
  pub room : held s.files + n ≤ s.capacity

takes : (s : Shelf) (i : ℕ) (bs : List ℕ) → add_answer s i bs ≡ Ok tt → Takes s i (length bs)
takes s i bs e =
    let here : i < length s.files = grind (arith, nat_tests) in
    let free : s.protects (name_at s.files i) ≡ false = grind (arith, nat_tests) in
    let room : held s.files + length bs ≤ s.capacity = grind (arith, nat_tests) in
    record { here = here; free = free; room = room }

taken : (s : Shelf) (i : ℕ) (bs : List ℕ) → Takes s i (length bs) → add_answer s i bs ≡ Ok tt
taken s i bs t =
    let here = lt-ltb i (length s.files) t.here in
    let room = le-leb (held s.files + length bs) s.capacity t.room in
    let free = t.free in
    grind (arith, nat_tests)

add_done : (s : Shelf) (i : ℕ) (bs : List ℕ) → add_answer s i bs ≡ Ok tt → add_after s i bs ≡ with_files s (added s.files i bs)
add_done s i bs e = ap (λ (r : Result (Unit {0}) ShelfFault). cond (is_ok r) (with_files s (added s.files i bs)) s) e

-- a file with bytes added, as it then stands

file-added : (fs : List File) (i : ℕ) (a : List ℕ) → i < length fs
    → get_or (added fs i a) i no_file ≡ record { name = name_at fs i; contents = contents_at fs i ++ a }
file-added fs i a h = get_or-set_same fs i (record { name = name_at fs i; contents = contents_at fs i ++ a }) no_file h

held-added : (fs : List File) (i : ℕ) (a : List ℕ) → i < length fs → held (added fs i a) ≡ held fs + length a
held-added fs i a h =
    let sum = sum_by-set (λ (f : File). length f.contents) fs i (record { name = name_at fs i; contents = contents_at fs i ++ a }) no_file h in
    omega (arith, length-append (contents_at fs i) a)

added_more : (fs : List File) (i : ℕ) (a b : List ℕ) → i < length fs → added (added fs i a) i b ≡ added fs i (a ++ b)
added_more fs i a b h =
    let it : File = record { name = name_at fs i; contents = contents_at fs i ++ a } in
    ap (λ (f : File). set (set fs i it) i (record { name = f.name; contents = f.contents ++ b })) (file-added fs i a h)
    ∙ (set-set fs i it (record { name = name_at fs i; contents = (contents_at fs i ++ a) ++ b })
    ∙ ap (λ (x : List ℕ). set fs i (record { name = name_at fs i; contents = x })) (append_assoc (contents_at fs i) a b))

pub record AddedMore (s next : Shelf) (i : ℕ) (a b : List ℕ) : Type 0 where
  pub answer : add_answer next i b ≡ Ok tt
  pub after : add_after next i b ≡ add_after s i (a ++ b)

-- where there is room for a and b, a is taken, and b behind it
pub add_more : (s next : Shelf) (i : ℕ) (a b : List ℕ) → add_answer s i (a ++ b) ≡ Ok tt → next ≡ add_after s i a → AddedMore s next i a b
add_more s next i a b e is =
    let both = takes s i (a ++ b) e in
    let size = length-append a b in
    let first : add_answer s i a ≡ Ok tt = taken s i a (record { here = both.here; free = both.free; room = omega arith }) in
    let mid : Shelf = with_files s (added s.files i a) in
    let same : next ≡ mid = is ∙ add_done s i a first in
    let held = held-added s.files i a both.here in
    let count = length-set s.files i (record { name = name_at s.files i; contents = contents_at s.files i ++ a }) in
    let free : s.protects (name_at (added s.files i a) i) ≡ false = ap (λ (f : File). s.protects f.name) (file-added s.files i a both.here) ∙ both.free in
    let second : add_answer mid i b ≡ Ok tt = taken mid i b (record { here = omega arith; free = free; room = omega arith }) in
    record {
      answer = ap (λ (x : Shelf). add_answer x i b) same ∙ second;
      after = ap (λ (x : Shelf). add_after x i b) same
          ∙ (add_done mid i b second ∙ (ap (with_files s) (added_more s.files i a b both.here) ∙ sym (add_done s i (a ++ b) e)));
    }

-- no bytes added
pub add_none : (s : Shelf) (i : ℕ) → add_answer s i [] ≡ Ok tt → add_after s i [] ≡ s
add_none s i e =
    add_done s i [] e
    ∙ ap (with_files s)
    (ap (λ (x : List ℕ). set s.files i (record { name = name_at s.files i; contents = x })) (append-nil (contents_at s.files i))
    ∙ set-get_or s.files i no_file)

-- a file cleared

emptied-file : (fs : List File) (n : List ℕ) (o : Option ℕ) → ((k : ℕ) → o ≡ Some k → k < length fs)
    → (unwrap_or o (length fs) < length (emptied fs n o)) × (name_at (emptied fs n o) (unwrap_or o (length fs)) ≡ n)
emptied-file fs n None h =
    (omega (arith, length_push fs (empty_file n)), ap (λ (f : File). f.name) (get_or_push fs (empty_file n) no_file (length fs) refl))
emptied-file fs n (Some k) h =
    (omega (arith, length-set fs k (empty_file n), h k refl), ap (λ (f : File). f.name) (get_or-set_same fs k (empty_file n) no_file (h k refl)))

-- a file that was cleared for so many bytes takes them
pub cleared_takes : (s next : Shelf) (n : List ℕ) (size i : ℕ) (bs : List ℕ) → Ok i ≡ clear_answer s n size → next ≡ clear_after s n size → size ≡ length bs
    → add_answer next i bs ≡ Ok tt
cleared_takes s next n size i bs e is sized =
    let free : s.protects n ≡ false = grind (arith, nat_tests) in
    let room : held (cleared s n) + size ≤ s.capacity = grind (arith, nat_tests) in
    let at : i ≡ unwrap_or (lookup_answer s n) (length s.files) = grind (arith, nat_tests) in
    let mid : Shelf = with_files s (cleared s n) in
    let same : next ≡ mid = is ∙ ap (λ (r : Result ℕ ShelfFault). cond (is_ok r) (with_files s (cleared s n)) s) (sym e) in
    let file = emptied-file s.files n (lookup_answer s n) (λ k found. (found_name s n k found).0) in
    let here = file.0 in
    let named : name_at (cleared s n) i ≡ n = ap (λ (k : ℕ). name_at (cleared s n) k) at ∙ file.1 in
    ap (λ (x : Shelf). add_answer x i bs) same
    ∙ taken mid i bs (record { here = omega arith; free = ap s.protects named ∙ free; room = omega arith })
