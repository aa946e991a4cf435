-- What is written comes back: a file's lines, and the file under its name.
use Rattle.rules.specs.Checks.{◌>>◌, check, or_fault}
use Rattle.std.proofs.Common.{◌≡◌, ℕ, zero, suc, ◌+◌, ◌-◌, ◌<◌, ◌≤◌, Bool, true, false, cond, not, ◌&&◌, ◌||◌, eqb, leb, List, [], ◌∷◌, ◌++◌, map, length, get_or, take, drop, set, is_ok, Some, None, Ok, Err, Option, Result, unwrap_or, sym, refl, ap, ◌∙◌, subst, arith}
use Rattle.std.proofs.lemmas.Bool.{or_parts, and_parts, and_from, not-false, eq-eqb, lt-ltb}
use Rattle.std.specs.Str.{bytes_eq}
use Rattle.std.proofs.lemmas.List.{length-set, length-append, get_or-set_same, get_or_at, set-set, set_at}
use Rattle.shelf.specs.declared.fault.ShelfFault.{ShelfFault}
use Rattle.shelf.specs.declared.fault.ShelfFault.TheVariants.{BadName, Full, Protected, NoFile}
use Rattle.shelf.specs.Name.{is_name}
use Rattle.shelf.specs.Shelf.{Shelf, File, with_files, name_at, contents_at, no_file, empty_file, lookup_from, lookup_answer, emptied, cleared, held, clear_answer, clear_after, add_answer, add_after}
use Rattle.rules.specs.Files.{filed, filed_by, contents_of, contents_by}
use Rattle.lines.specs.Line.{holds_break}
use Rattle.command.specs.declared.fault.Fault.TheVariants.{Unsaved, FileNotFound, TooManyLines, LineTooLong, SheetFull}
use Rattle.reading.specs.Read.{Read, ◌>>=◌}
use Rattle.command.specs.Said.{Addresses, FileName, given_name, write_file}
use Rattle.rules.specs.Addresses.{Range, whole_or}
use Rattle.rules.specs.Commands.{read_in}
use Rattle.rules.specs.Doing.{Done, doing, perform, short, texts_of}
use Rattle.rules.specs.Effects.{Effect, files, effect_of, name_of}
use Rattle.rules.specs.Files.{on_first, split}
use Rattle.rules.specs.Lines.{Line, from_to, created}
use Rattle.rules.specs.Printing.{numbered, printed}
use Rattle.rules.specs.RoundTrip.{Unbroken, LinesComeBack, FilesComeBack, RoundTrip}
use Rattle.rules.specs.World.{World}

split-line : (t rest : List ℕ) → holds_break t ≡ false → split ((t ++ (10 ∷ [])) ++ rest) ≡ t ∷ split rest
split-line [] rest h = refl
split-line (b ∷ t) rest h =
    let p = or_parts (eqb b 10) (holds_break t) h in
    ap (λ (c : Bool). elim c as (λ _. List (List ℕ)) [ true ↦ [] ∷ split ((t ++ (10 ∷ [])) ++ rest) | false ↦ on_first b (split ((t ++ (10 ∷ [])) ++ rest)) ]) p.0
    ∙ ap (on_first b) (split-line t rest p.1)

pub lines_come_back : LinesComeBack
lines_come_back [] h = refl
lines_come_back (l ∷ ls) h = split-line l.text (printed ls) h.0 ∙ ap (λ (ts : List (List ℕ)). l.text ∷ ts) (lines_come_back ls h.1)

-- a test passed on the way to an accepted answer
passed : {A E : Type 0} (b : Bool) (f : E) (r : Result A E) (a : A) → cond b (Err f) r ≡ Ok a → (b ≡ false) × (r ≡ Ok a)
passed true f r a e = let z : ◌≡◌ {A = ℕ} 0 1 = cc in absurd (omega arith)
passed false f r a e = (refl, e)

same_self : (n : List ℕ) → bytes_eq n n ≡ true
same_self [] = refl
same_self (b ∷ bs) = and_from (eqb b b) (bytes_eq bs bs) (eq-eqb b b refl) (same_self bs)

-- the file of a name, once it is written, is still the first of that name
module _ (name : List ℕ) (g : File) (e : g.name ≡ name) where
  mine : bytes_eq g.name name ≡ true
  mine = subst (λ (x : List ℕ). bytes_eq x name ≡ true) (sym e) (same_self name)

  -- a new one, behind the others
  new_found : (n : ℕ) (fs : List File) → lookup_from n fs name ≡ None → lookup_from n (fs ++ g ∷ []) name ≡ Some (n + length fs)
  new_found n [] h = ap (λ (b : Bool). cond b (Some n) None) mine ∙ ap Some (omega arith)
  new_found n (f ∷ fs) h = by (bytes_eq f.name name) h (new_found (n + 1) fs)
    where
      by : (b : Bool) → cond b (Some n) (lookup_from (n + 1) fs name) ≡ None
          → (lookup_from (n + 1) fs name ≡ None → lookup_from (n + 1) (fs ++ g ∷ []) name ≡ Some (n + 1 + length fs))
          → cond b (Some n) (lookup_from (n + 1) (fs ++ g ∷ []) name) ≡ Some (n + length (f ∷ fs))
      by true q r = let z : ◌≡◌ {A = ℕ} 0 1 = cc in absurd (omega arith)
      by false q r = r q ∙ ap Some (omega arith)

  -- an old one, in its place
  old_found : (n : ℕ) (fs : List File) (i : ℕ) → lookup_from n fs name ≡ Some i → (n ≤ i) × (i < n + length fs) × (lookup_from n (set fs (i - n) g) name ≡ Some i)
  old_found n [] i h = let z : ◌≡◌ {A = ℕ} 0 1 = cc in absurd (omega arith)
  old_found n (f ∷ fs) i h = by (bytes_eq f.name name) refl h (old_found (n + 1) fs i)
    where
      by : (b : Bool) → bytes_eq f.name name ≡ b → cond b (Some n) (lookup_from (n + 1) fs name) ≡ Some i
          → (lookup_from (n + 1) fs name ≡ Some i → (n + 1 ≤ i) × (i < n + 1 + length fs) × (lookup_from (n + 1) (set fs (i - (n + 1)) g) name ≡ Some i))
          → (n ≤ i) × (i < n + length (f ∷ fs)) × (lookup_from n (set (f ∷ fs) (i - n) g) name ≡ Some i)
      by true s q r =
          let z : n ≡ i = cc in
          let d : i - n ≡ 0 = omega arith in
          (omega arith, omega arith, ap (λ (k : ℕ). lookup_from n (set (f ∷ fs) k g) name) d ∙ ap (λ (b : Bool). cond b (Some n) (lookup_from (n + 1) fs name)) mine ∙ ap Some z)
      by false s q r =
          let w = r q in
          let d : i - n ≡ suc (i - (n + 1)) = omega (arith, w.0) in (
            omega (arith, w.0),
            omega (arith, w.1),
            ap (λ (k : ℕ). lookup_from n (set (f ∷ fs) k g) name) d ∙ ap (λ (b : Bool). cond b (Some n) (lookup_from (n + 1) (set fs (i - (n + 1)) g) name)) s ∙ w.2,
          )

-- a name just cleared: its file stands at i, empty, and stays the one that is found there
record Cleared (name : List ℕ) (fs : List File) (i : ℕ) : Type 0 where
  inside : i < length fs
  empty : get_or fs i no_file ≡ empty_file name
  found : (g : File) → g.name ≡ name → lookup_from 0 (set fs i g) name ≡ Some i

cleared_as : (fs : List File) (name : List ℕ) (o : Option ℕ) → lookup_from 0 fs name ≡ o → Cleared name (emptied fs name o) (unwrap_or o (length fs))
cleared_as fs name (Some j) h =
    let w = old_found name (empty_file name) refl 0 fs j h in
    let d : j - 0 ≡ j = omega arith in
    record {
      inside = simp length-set (omega (arith, w.1));
      empty = get_or-set_same fs j (empty_file name) no_file (omega (arith, w.1));
      found = λ g e.
          ap (λ (xs : List File). lookup_from 0 xs name) (set-set fs j (empty_file name) g)
          ∙ ap (λ (k : ℕ). lookup_from 0 (set fs k g) name) (sym d)
          ∙ (old_found name g e 0 fs j h).2;
    }
cleared_as fs name None h = record {
  inside = simp length-append (omega arith);
  empty = get_or_at fs (empty_file name) [] no_file (length fs) refl;
  found = λ g e.
      ap (λ (xs : List File). lookup_from 0 xs name) (set_at fs (empty_file name) [] g (length fs) refl)
      ∙ new_found name g e 0 fs h
      ∙ ap Some (omega arith);
}

ok_same : {A E : Type 0} (a b : A) → ◌≡◌ {A = Result A E} (Ok a) (Ok b) → a ≡ b
ok_same a b e = cc

-- the contents put into it are what is found under the name
module _ (s : Shelf) (name contents : List ℕ) (i : ℕ) (e : clear_answer s name (length contents) ≡ Ok i) where
  abbrev fs : List File
  fs = cleared s name

  abbrev fits : Bool
  fits = leb (length fs) 8 && leb (held fs + length contents) s.capacity

  abbrev number : ℕ
  number = unwrap_or (lookup_answer s name) (length s.files)

  named : (not (is_name name) ≡ false) × (cond (s.protects name) (Err Protected) (cond (not fits) (Err Full) (Ok number)) ≡ Ok i)
  named = passed (not (is_name name)) BadName _ i e

  free : (s.protects name ≡ false) × (cond (not fits) (Err Full) (Ok number) ≡ Ok i)
  free = passed (s.protects name) Protected _ i named.1

  room : (not fits ≡ false) × (◌≡◌ {A = Result ℕ ShelfFault} (Ok number) (Ok i))
  room = passed (not fits) Full _ i free.1

  here : number ≡ i
  here = ok_same number i room.1

  enough : leb (held fs + length contents) s.capacity ≡ true
  enough = (and_parts (leb (length fs) 8) (leb (held fs + length contents) s.capacity) (not-false fits room.0)).1

  file : Cleared name fs i
  file = subst (Cleared name fs) here (cleared_as s.files name (lookup_answer s name) refl)

  emptied-shelf : clear_after s name (length contents) ≡ with_files s fs
  emptied-shelf = ap (λ (r : Result ℕ ShelfFault). cond (is_ok r) (with_files s fs) s) e

  is_named : name_at fs i ≡ name
  is_named = ap (λ (f : File). f.name) file.empty

  added_fine : add_answer (with_files s fs) i contents ≡ Ok tt
  added_fine =
      ap (λ (b : Bool). cond (not b) (Err NoFile) (cond (s.protects (name_at fs i)) (Err Protected) (cond (not (leb (held fs + length contents) s.capacity)) (Err Full) (Ok tt)))) (lt-ltb i (length fs) file.inside)
      ∙ ap (λ (n : List ℕ). cond (s.protects n) (Err Protected) (cond (not (leb (held fs + length contents) s.capacity)) (Err Full) (Ok tt))) is_named
      ∙ ap (λ (b : Bool). cond b (Err Protected) (cond (not (leb (held fs + length contents) s.capacity)) (Err Full) (Ok tt))) free.0
      ∙ ap (λ (b : Bool). cond (not b) (Err Full) (Ok tt)) enough

  abbrev written : File
  written = record { name = name_at fs i; contents = contents_at fs i ++ contents }

  filed-shelf : add_after (with_files s fs) i contents ≡ with_files s (set fs i written)
  filed-shelf = ap (λ (r : Result (Unit {0}) ShelfFault). cond (is_ok r) (with_files s (set fs i written)) (with_files s fs)) added_fine

  found_there : contents_of (with_files s (set fs i written)) name ≡ Some contents
  found_there =
      ap (contents_by (with_files s (set fs i written))) (file.found written is_named)
      ∙ ap Some (ap (λ (f : File). f.contents) (get_or-set_same fs i written no_file file.inside) ∙ ap (λ (f : File). f.contents ++ contents) file.empty)

  comes_back : contents_of (add_after (clear_after s name (length contents)) i contents) name ≡ Some contents
  comes_back =
      ap (λ (x : Shelf). contents_of (add_after x i contents) name) emptied-shelf ∙ ap (λ (x : Shelf). contents_of x name) filed-shelf ∙ found_there

pub files_come_back : FilesComeBack
files_come_back s v name contents h = by (clear_answer s name (length contents)) refl h
  where
    by : (r : Result ℕ ShelfFault) → clear_answer s name (length contents) ≡ r → filed_by s name contents r ≡ Ok v → contents_of v name ≡ Some contents
    by (Err f) e q = let z : ◌≡◌ {A = ℕ} 0 1 = cc in absurd (omega arith)
    by (Ok i) e q = ap (λ (x : Shelf). contents_of x name) (sym (ok_same _ v q)) ∙ comes_back s name contents i e

-- what was accepted on the way to an accepted answer
bound : {A B : Type 0} (r : Read A) (go : A → Read B) (b : B) → (r >>= go) ≡ Ok b → (a : A) × (r ≡ Ok a) × (go a ≡ Ok b)
bound (Ok a) go b e = (a, refl, e)
bound (Err f) go b e = let z : ◌≡◌ {A = ℕ} 0 1 = cc in absurd (omega arith)

follows : {A B : Type 0} (r : Read A) (next : Read B) (b : B) → (r >> next) ≡ Ok b → next ≡ Ok b
follows (Ok a) next b e = e
follows (Err f) next b e = let z : ◌≡◌ {A = ℕ} 0 1 = cc in absurd (omega arith)

unbroken-drop : (n : ℕ) (ls : List Line) → Unbroken ls → Unbroken (drop n ls)
unbroken-drop zero ls h = h
unbroken-drop (suc n) [] h = tt
unbroken-drop (suc n) (l ∷ ls) h = unbroken-drop n ls h.1

unbroken-take : (n : ℕ) (ls : List Line) → Unbroken ls → Unbroken (take n ls)
unbroken-take zero ls h = tt
unbroken-take (suc n) [] h = tt
unbroken-take (suc n) (l ∷ ls) h = (h.0, unbroken-take n ls h.1)

created-texts : (ts : List (List ℕ)) → texts_of (map created ts) ≡ ts
created-texts [] = refl
created-texts (t ∷ ts) = ap (λ (us : List (List ℕ)). t ∷ us) (created-texts ts)

some_same : {A : Type 0} (a b : A) → Some a ≡ Some b → a ≡ b
some_same a b e = cc

-- an accepted `w` put its lines into the file
module _ (room : ℕ) (w : World) (a : Addresses) (f : FileName) (name : List ℕ) (d : Done) (r : Range)
    (range : whole_or w.text a ≡ Ok r) (is : name_of w f ≡ Ok name) (done : doing room w a (write_file f) ≡ Ok d) where
  abbrev c : List ℕ
  c = printed (from_to r.first r.final w.text.lines)

  abbrev all : Bool
  all = eqb r.first 1 && eqb r.final (length w.text.lines)

  effect_is : effect_of w a (write_file f) ≡ Ok (files name c all (numbered (length c)))
  unfolding effect_of
  effect_is =
      ap (λ (q : Read Range). q >>= λ p. name_of w f >>= λ n.
      Ok (files n (printed (from_to p.first p.final w.text.lines)) (eqb p.first 1 && eqb p.final (length w.text.lines)) (numbered (length (printed (from_to p.first p.final w.text.lines)))))) range
      ∙ ap (λ (q : Read (List ℕ)). q >>= λ n. Ok (files n c all (numbered (length c)))) is

  performed : perform room w (files name c all (numbered (length c))) ≡ Ok d
  performed = sym (ap (λ (q : Read Effect). q >>= perform room w) effect_is) ∙ done

  written-file : contents_of d.world.shelf name ≡ Some c
  unfolding perform
  written-file =
      let q = follows (check (leb (length (numbered (length c))) room) SheetFull) _ d performed in
      let b = bound (filed w.shelf name c) _ d q in
      let v = ok_same _ d b.2 in
      subst (λ (x : Done). contents_of x.world.shelf name ≡ Some c) v (files_come_back w.shelf b.0 name c b.1)

read-file : (more : ℕ) (x y : World) (name c : List ℕ) → contents_of x.shelf name ≡ Some c → read_in more x (given_name name) ≡ Ok y → y.text.lines ≡ map created (split c)
read-file more x y name c h e =
    let q = follows (check (x.warned || not x.unsaved) Unsaved) _ y e in
    let b = bound (or_fault FileNotFound (contents_of x.shelf name)) _ y q in
    let z : b.0 ≡ c = ok_same b.0 c (sym b.1 ∙ ap (or_fault FileNotFound) h) in
    let k = follows (check (leb (length (split b.0)) x.capacity) TooManyLines) _ y b.2 in
    let l = follows (check (short (split b.0)) LineTooLong) _ y k in
    let m = follows (check (leb (length (numbered (length b.0))) more) SheetFull) _ y l in
    ap (λ (v : World). v.text.lines) (sym (ok_same _ y m)) ∙ ap (λ (t : List ℕ). map created (split t)) z

pub round_trip : RoundTrip
round_trip room more w x y a f name d r u range is done same e =
    let c = printed (from_to r.first r.final w.text.lines) in
    let there : contents_of x.shelf name ≡ Some c = ap (λ (s : Shelf). contents_of s name) same ∙ written-file room w a f name d r range is done in
    let part = unbroken-take (suc r.final - r.first) (drop (r.first - 1) w.text.lines) (unbroken-drop (r.first - 1) w.text.lines u) in
    ap texts_of (read-file more x y name c there e) ∙ created-texts (split c) ∙ lines_come_back (from_to r.first r.final w.text.lines) part
