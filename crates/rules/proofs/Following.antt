-- Lines known by their serials, beside the lines of a text: what the commands of a turn do to them.
use Rattle.std.proofs.Common.{◌≡◌, ℕ, suc, ◌+◌, ◌-◌, ◌≤◌, Bool, true, false, eqb, leb, List, [], ◌∷◌, ◌++◌, map, length, is_some, Ok, Err, sym, refl, ap, ◌∙◌, subst, inl, inr, le_trans, le_refl, arith}
use mathlib.Core.List.{map-append}
use Rattle.std.proofs.lemmas.Simd.{map-map}
use Rattle.std.proofs.lemmas.Bool.{ne_eqb, cases_lt}
use Rattle.command.specs.declared.fault.Fault.TheVariants.{TooManyLines, LineTooLong, SheetFull}
use Rattle.reading.specs.Read.{Read, ◌>>=◌}
use Rattle.reading.specs.Commands.{said}
use Rattle.rules.specs.Checks.{◌>>◌}
use Rattle.command.specs.Said.{Addresses, Action, Command, act, append_text, edit_file, quit_session, undo_change, global, Said}
use Rattle.rules.specs.Dealing.{Serials, passed, carried, action_of, effect_in, carried_if, along}
use Rattle.rules.specs.Doing.{Done, short, texts_of, perform, unsaved_if, kept_if}
use Rattle.rules.specs.Effects.{Effect, shows, alters, marks, files, effect_of}
use Rattle.rules.specs.Files.{filed}
use Rattle.rules.specs.Globals.{one_if, sum_of, setting, Run, action_done, command_done, read_done, obeyed, turn}
use Rattle.rules.specs.Lines.{Line, Page, picked, with_mark, created, mark_on}
use Rattle.rules.specs.Pieces.{Piece, old, new, placed}
use Rattle.rules.specs.Turns.{Known, standing, Numbered}
use Rattle.rules.specs.World.{World}
use Rattle.rules.proofs.Effecting.{NoneTwice, effect_once}
use Rattle.rules.proofs.Mapped.{map-picked, map-placed, map-placed-from, on-line-alone}
use Rattle.rules.proofs.Sums.{sum-append, sum-picked_le, OnceIn, once_more, Single, creations, placed_from, Weightless, placed-from_le, placed-from_any}
use Rattle.rules.proofs.Whenever.{Whenever, whenever_any, whenever_check, by_one_test}

-- what a known line has in common with the line that it stands beside
abbrev pub Face : Type 0
Face = List ℕ × Bool

abbrev pub known_face : Known → Face
known_face x = (x.text, x.waits)

abbrev pub line_face : Line → Face
line_face l = (l.text, l.chosen)

abbrev pub Beside : List Known → List Line → Type 0
Beside xs ls = map known_face xs ≡ map line_face ls

-- a created line, with its serial
abbrev pub fresh : ℕ → List ℕ → Known
fresh n t = record { serial = n; text = t; waits = false }

abbrev pub waitless : List ℕ → Face
waitless t = (t, false)

beside_placed : (n : ℕ) (xs : List Known) (ls : List Line) (ps : List Piece) → Beside xs ls
    → Beside (placed_from fresh n xs ps) (placed created ls ps)
beside_placed n xs ls ps g =
    map-placed-from known_face fresh n xs ps
    ∙ placed-from_any waitless n (map known_face xs) ps
    ∙ ap (λ fs. placed waitless fs ps) g
    ∙ sym (map-placed line_face created ls ps)

beside_marked : (n k : ℕ) (xs : List Known) (ls : List Line) → Beside xs ls → Beside xs (mark_on n k ls)
beside_marked n k xs ls g =
    g
    ∙ sym (map-map line_face (with_mark k false) ls)
    ∙ sym (on-line-alone line_face (with_mark k true) (λ _. refl) n (map (with_mark k false) ls))

-- the text of a world that a change is noted in

kept_text : (b : Bool) (g : Page) (w : World) → (kept_if b g w).text ≡ w.text
kept_text true g w = refl
kept_text false g w = refl

unsaved_text : (b : Bool) (w : World) → (unsaved_if b w).text ≡ w.text
unsaved_text true w = refl
unsaved_text false w = refl

-- serials

abbrev serial_is : ℕ → Known → ℕ
serial_is k x = one_if (eqb k x.serial)

-- created lines have serials of their own
created-once : (k m : ℕ) (xs : List Known) (ps : List Piece) (hi : ℕ) → m + creations ps ≡ hi → standing k xs ≡ 0
    → OnceIn m hi k (standing k (placed_from fresh m xs ps))
created-once k m xs [] hi e z = inl refl
created-once k m xs (old n ∷ ps) hi e z =
    let same : standing k (placed_from fresh m xs ps) ≡ standing k (picked xs n ++ placed_from fresh m xs ps)
    = omega (arith, sum-append (serial_is k) (picked xs n) (placed_from fresh m xs ps), sum-picked_le (serial_is k) n xs) in
    subst (OnceIn m hi k) same (created-once k m xs ps hi e z)
created-once k m xs (new t ∷ ps) hi e z =
    once_more m hi k _ (omega arith) (created-once k (suc m) xs ps hi (omega arith) z)

placed-numbered : (n : ℕ) (xs : List Known) (ps : List Piece) → Single ps → Numbered n xs
    → Numbered (n + creations ps) (placed_from fresh n xs ps)
placed-numbered n xs ps single numbered = (once, λ k h. let c = created k (omega arith) in omega arith)
  where
    created : (k : ℕ) → n ≤ k → OnceIn n (n + creations ps) k (standing k (placed_from fresh n xs ps))
    created k h = created-once k n xs ps (n + creations ps) refl (numbered.1 k h)

    once : (k : ℕ) → standing k (placed_from fresh n xs ps) ≤ 1
    once k = elim (cases_lt k n) [
      | inl h ↦ omega (
        arith,
        numbered.0 k,
        placed-from_le fresh (serial_is k) n (λ m t l. ap one_if (ne_eqb k m (λ e. omega arith))) xs ps single,
      )
      | inr h ↦ let c = created k h in omega arith
    ]

-- from known lines to known lines no sum grows, but for lines created with a serial from n on
abbrev pub Kept : ℕ → List Known → List Known → Type 0
Kept n xs ys = (f : Known → ℕ) → Weightless fresh f n → sum_of f ys ≤ sum_of f xs

abbrev pub serials_in : ℕ → List Known → Serials
serials_in n xs = record { standing = map (λ x. x.serial) xs; free = n }

passed_known : (n : ℕ) (xs : List Known) (ps : List Piece)
    → passed (map (λ x. x.serial) xs) n ps ≡ serials_in (n + creations ps) (placed_from fresh n xs ps)
passed_known n xs [] = ap (λ m. serials_in m []) (omega arith)
passed_known n xs (old k ∷ ps) =
    rw (passed_known n xs ps, map-append (λ x. x.serial) (picked xs k) (placed_from fresh n xs ps), map-picked (λ x. x.serial) k xs)
passed_known n xs (new t ∷ ps) =
    rw (passed_known (suc n) xs ps) (ap (λ m. serials_in m (fresh n t ∷ placed_from fresh (suc n) xs ps)) (omega arith))

-- what becomes of known lines, the serials below n being given, when their text becomes these lines and their serials these
pub record Follows (n : ℕ) (xs : List Known) (k : Serials) (ls : List Line) : Type 0 where
  pub now : List Known
  pub free : ℕ
  pub more : n ≤ free
  pub known : k ≡ serials_in free now
  pub beside : Beside now ls
  pub kept : Kept n xs now
  pub numbered : Numbered free now

-- the commands of a list, one by one

module _ (n : ℕ) (xs : List Known) (numbered : Numbered n xs) where
  abbrev given : Serials
  given = serials_in n xs

  -- they follow into the text of this world
  abbrev Leads : Serials → World → Type 0
  Leads k w = Follows n xs k w.text.lines

  abbrev DoneLeads : Effect → Done → Type 0
  DoneLeads e d = Leads (carried e given) d.world

  stays_put : (ls : List Line) → Beside xs ls → Follows n xs given ls
  stays_put ls g = record {
    now = xs;
    free = n;
    more = le_refl n;
    known = refl;
    beside = g;
    kept = λ f _. le_refl (sum_of f xs);
    numbered = numbered;
  }

  perform_follows : (room : ℕ) (w : World) (e : Effect) → NoneTwice e → Beside xs w.text.lines
      → Whenever (DoneLeads e) (perform room w e)
  unfolding perform
  perform_follows room w (shows m out) single g =
      whenever_check (DoneLeads (shows m out)) (leb (length out) room) SheetFull _ λ _. stays_put w.text.lines g
  perform_follows room w (alters ps m out) single g =
      whenever_check (DoneLeads (alters ps m out)) (leb (length (placed created w.text.lines ps)) w.capacity) TooManyLines _ λ _.
      whenever_check (DoneLeads (alters ps m out)) (short (texts_of (placed created w.text.lines ps))) LineTooLong _ λ _.
      whenever_check (DoneLeads (alters ps m out)) (leb (length out) room) SheetFull _ λ _.
      record {
        now = placed_from fresh n xs ps;
        free = n + creations ps;
        more = omega arith;
        known = passed_known n xs ps;
        beside = beside_placed n xs w.text.lines ps g;
        kept = λ f z. placed-from_le fresh f n z xs ps single;
        numbered = placed-numbered n xs ps single numbered;
      }
  perform_follows room w (marks m k) single g = stays_put (mark_on m k w.text.lines) (beside_marked m k xs w.text.lines g)
  perform_follows room w (files f c all out) single g =
      whenever_check (DoneLeads (files f c all out)) (leb (length out) room) SheetFull _ λ _.
      whenever_any (DoneLeads (files f c all out)) (filed w.shelf f c) _ λ _. stays_put w.text.lines g

  done_follows : (s : Run) (d : Action) (e : Effect) (r : Read Done) → Beside xs s.world.text.lines → Whenever (DoneLeads e) r
      → Leads (carried_if (r >> Ok e) given) (action_done s d r).world
  done_follows s d e (Err f) g h = stays_put s.world.text.lines g
  done_follows s d e (Ok v) g h = rw (kept_text, unsaved_text) h

  effect_follows : (room : ℕ) (s : Run) (d : Action) (x : Read Effect) → Beside xs s.world.text.lines → Whenever NoneTwice x
      → Leads (carried_if (x >>= λ e. perform room s.world e >> Ok e) given) (action_done s d (x >>= λ e. perform room s.world e)).world
  effect_follows room s d (Err f) g h = stays_put s.world.text.lines g
  effect_follows room s d (Ok e) g h = done_follows s d e (perform room s.world e) g (perform_follows room s.world e h g)

  command_follows : (room : ℕ) (s : Run) (a : Addresses) (c : Command) → Beside xs s.world.text.lines
      → Leads (carried_if (action_of c >>= λ d. effect_of s.world a d >>= λ e. perform (room - length s.out) s.world e >> Ok e) given)
      (command_done room s a c).world
  command_follows room s a (act d) g =
      effect_follows (room - length s.out) s d (effect_of s.world a d) g (effect_once s.world a d)
  command_follows room s a append_text g = stays_put s.world.text.lines g
  command_follows room s a quit_session g = stays_put s.world.text.lines g
  command_follows room s a undo_change g = stays_put s.world.text.lines g
  command_follows room s a (edit_file f) g = stays_put s.world.text.lines g
  command_follows room s a (global c l) g = stays_put s.world.text.lines g

  read_follows : (room : ℕ) (s : Run) (r : Read Said) → Beside xs s.world.text.lines
      → Leads (carried_if (r >>= λ c. action_of c.command >>= λ d. effect_of s.world c.addresses d
      >>= λ e. perform (room - length s.out) s.world e >> Ok e) given)
      (read_done room s r).world
  read_follows room s (Err f) g = stays_put s.world.text.lines g
  read_follows room s (Ok c) g = command_follows room s c.addresses c.command g

  obeyed_follows : (room : ℕ) (s : Run) (c : List ℕ) → Beside xs s.world.text.lines
      → Leads (carried_if (effect_in room s c) given) (obeyed room s c).world
  obeyed_follows room s c g = read_follows room s (said (setting s.world true) c) g

-- one step behind another
follows_on : (n : ℕ) (xs : List Known) (j k : Serials) (ls ms : List Line) (h : Follows n xs j ls)
    → Follows h.free h.now k ms → Follows n xs k ms
follows_on n xs j k ls ms h f = record {
  now = f.now;
  free = f.free;
  more = le_trans h.more f.more;
  known = f.known;
  beside = f.beside;
  kept = λ w z. le_trans (f.kept w (λ m t l. z m t (le_trans h.more l))) (h.kept w z);
  numbered = f.numbered;
}

pub turn_follows : (room : ℕ) (cs : List (List ℕ)) (s : Run) (n : ℕ) (xs : List Known) → Numbered n xs → Beside xs s.world.text.lines
    → Follows n xs (along room cs s (serials_in n xs)) (turn room cs s).world.text.lines
turn_follows room [] s n xs numbered g = stays_put n xs numbered s.world.text.lines g
turn_follows room (c ∷ cs) s n xs numbered g =
    let h = obeyed_follows n xs numbered room s c g in
    by_one_test (λ (k : Serials) (r : Run). Follows n xs k r.world.text.lines) (is_some s.fault) (serials_in n xs) _ s (turn room cs (obeyed room s c))
    (λ _. stays_put n xs numbered s.world.text.lines g)
    (λ _. follows_on n xs _ _ _ _ h
    (subst (λ k. Follows h.free h.now (along room cs (obeyed room s c) k) (turn room cs (obeyed room s c)).world.text.lines) (sym h.known)
    (turn_follows room cs (obeyed room s c) h.free h.now h.numbered h.beside)))
