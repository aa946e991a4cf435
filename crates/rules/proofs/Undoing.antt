-- The first accepted `u` behind a change brings back the page from just before it; and when `u` is accepted at all.
use Rattle.std.proofs.Common.{◌≡◌, ℕ, suc, ◌-◌, Bool, true, false, List, [], ◌∷◌, length, Some, None, Ok, sym, refl, ap, ◌∙◌, subst, arith}
use Rattle.command.specs.declared.fault.Fault.TheVariants.{NothingToUndo}
use Rattle.reading.specs.Commands.{said}
use Rattle.command.specs.Said.{Said}
use Rattle.rules.specs.Checks.{check}
use Rattle.rules.specs.Commands.{Kind, alteration, undoing, beginning, putting, stopping, reading, plain, accepted, Outcome, or_refusal, by_command, command_line}
use Rattle.rules.specs.Giving.{Handed, odd_tail, by_mode, entered, entry_fault, Reply, turned_away, answered, give}
use Rattle.rules.specs.Globals.{setting, chosen_in, one_if}
use Rattle.rules.specs.Lines.{Line, Page, page, unchosen, choosing, clean}
use Rattle.rules.specs.Runs.{given, kind_of}
use Rattle.rules.specs.Undo
use Rattle.rules.specs.Undo.{AsksUndo, UndoReady, Fresh, opening, editing, UndoRefused, Quiet, Between, more, Typed, stop, put, refuse, Change, altering, UndoRight}
use Rattle.rules.specs.World.{World, commands, gathering, with_mode, with_text, with_keep, with_unsaved}
use Rattle.rules.proofs.Filling.{since, input_of, State, state_of, Held, Filled, Stays, Puts, Meets, held_same, held_then, filled_then, given_right, met}
use Rattle.rules.proofs.Settling.{sessions_settled}

-- lines between a change and its undoing

quiet_held : (k : Kind) (w v : State) → Quiet k → Meets k w v → Held w v
quiet_held alteration w v q m = absurd q
quiet_held undoing w v q m = absurd q
quiet_held beginning w v q m = m.0
quiet_held putting w v q m = absurd q
quiet_held stopping w v q m = m
quiet_held reading w v q m = absurd q
quiet_held plain w v q m = m.0

between_held : {w v : World} → Between w v → Held (state_of w) (state_of v)
between_held (Undo.none {w = w}) = held_same (state_of w)
between_held (more {w = w} {v = v} h q b) =
    held_then (state_of w) (state_of (given w h)) (state_of v) (quiet_held (kind_of w h) (state_of w) (state_of (given w h)) q (given_right w h)) (between_held b)

-- text typed in: the first line that goes in fills the keep, the others leave it alone

typed_held : {n : ℕ} {w v : World} (before : ℕ) → input_of w.mode ≡ since before true → Typed n w v → Held (state_of w) (state_of v)
typed_held {w = w} before e (stop h k) = met stopping w h k
typed_held before e (put {w = w} {v = v} h k t) =
    let m : Puts (since before true) (state_of w) (state_of (given w h)) = subst (λ i. Puts i (state_of w) (state_of (given w h))) e (met putting w h k) in
    held_then (state_of w) (state_of (given w h)) (state_of v) m.1 (typed_held before m.0 t)
typed_held before e (refuse {w = w} {v = v} h k t) =
    let m = met plain w h k in
    let s : Stays (since before true) (state_of w) (state_of (given w h)) = subst (λ i. Stays i (state_of w) (state_of (given w h))) e m.1 in
    held_then (state_of w) (state_of (given w h)) (state_of v) m.0 (typed_held before s.0 t)

typed_fills : {n : ℕ} {w v : World} (before : ℕ) (ls : List Line) → input_of w.mode ≡ since before false → w.text.lines ≡ ls → Typed (suc n) w v
    → Filled (page (unchosen ls) before) (state_of v)
typed_fills before ls e l (put {w = w} {v = v} h k t) =
    let m : Puts (since before false) (state_of w) (state_of (given w h)) = subst (λ i. Puts i (state_of w) (state_of (given w h))) e (met putting w h k) in
    filled_then (page (unchosen ls) before) (state_of (given w h)) (state_of v)
    (subst (λ ls. Filled (page (unchosen ls) before) (state_of (given w h))) l m.1) (typed_held before m.0 t)
typed_fills before ls e l (refuse {w = w} {v = v} h k t) =
    let m = met plain w h k in
    let s : Stays (since before false) (state_of w) (state_of (given w h)) = subst (λ i. Stays i (state_of w) (state_of (given w h))) e m.1 in
    typed_fills before ls s.0 (s.1 ∙ l) t

-- changes

filled-clean : (g : Page) (v : State) → clean g ≡ g → Filled (clean g) v → Filled g v
filled-clean g v e f = subst (λ g. Filled g v) e f

change_fills : {w v : World} → clean w.text ≡ w.text → Change w v → Filled w.text (state_of v)
change_fills e (altering {w = w} h k) = filled-clean w.text (state_of (given w h)) e (met alteration w h k)
change_fills e (Undo.undone {w = w} h k) = (met undoing w h k).0
change_fills e (Undo.typed {w = w} {v = v} h k t) =
    let m = met beginning w h k in
    filled-clean w.text (state_of v) e (typed_fills w.text.current w.text.lines m.1 m.2 t)

-- a page without chosen lines is what the keep takes
clean_same : (g : Page) → chosen_in g.lines ≡ 0 → clean g ≡ g
clean_same g e = ap (λ ls. page ls g.current) (go g.lines e)
  where
    one : (l : Line) (b : Bool) → l.chosen ≡ b → one_if b ≡ 0 → choosing false l ≡ l
    one l true e z = absurd (omega arith)
    one l false e z = ap (λ c. choosing c l) (sym e)

    go : (ls : List Line) → chosen_in ls ≡ 0 → unchosen ls ≡ ls
    go [] e = refl
    go (l ∷ ls) e = ap (λ x. x ∷ unchosen ls) (one l l.chosen refl (omega arith)) ∙ ap (λ r. l ∷ r) (go ls (omega arith))

pub undo_right : UndoRight
undo_right capacity s w v x h l c b k =
    let e = clean_same w.text (sessions_settled capacity s w l).0.unchosen in
    (met undoing x h k).1 ∙ (between_held b).keep ∙ (change_fills e c).keep

-- whether a `u` is refused for nothing to undo

change_undoable : {w v : World} → Change w v → v.undoable ≡ true
change_undoable (altering {w = w} h k) = (met alteration w h k).undoable
change_undoable (Undo.undone {w = w} h k) = (met undoing w h k).0.undoable
change_undoable (Undo.typed {w = w} h k t) =
    let m = met beginning w h k in (typed_fills w.text.current w.text.lines m.1 m.2 t).undoable

fresh_nothing : {w : World} → Fresh w → w.undoable ≡ false
fresh_nothing (opening capacity s) = refl
fresh_nothing (editing w h k) = met reading w h k

-- what such a line comes to
module _ (x : World) (h : Handed) where
  entered-whole : (room : ℕ) (line : List ℕ) → x.mode ≡ commands → odd_tail false line ≡ false → entered room x line ≡ command_line room (with_mode commands x) line
  unfolding entered
  entered-whole room line m o =
      ap (by_mode room x line) m
      ∙ ap (λ b. elim b [ true ↦ accepted plain (with_mode (gathering line) x) [] | false ↦ command_line room (with_mode commands x) line ]) o

  line_read : (room : ℕ) (line : List ℕ) (c : Said) → said (setting x false) line ≡ Ok c
      → command_line room (with_mode commands x) line ≡ by_command room (with_mode commands x) c.addresses c.command
  unfolding command_line
  line_read room line c e = ap (λ r. or_refusal (with_mode commands x) r λ c. by_command room (with_mode commands x) c.addresses c.command) e

  give-passed : entry_fault x h ≡ None → give x h ≡ answered x h.sheet (entered (length h.sheet - 16) x h.line)
  unfolding give
  give-passed e =
      ap (λ o. elim o [ Some f ↦ turned_away x h.sheet f | None ↦ answered x h.sheet (entered (length h.sheet - 16) x h.line) ]) e

  undo_by : Bool → Outcome
  undo_by b = or_refusal (with_mode commands x) (check b NothingToUndo) λ _.
      accepted undoing (with_unsaved true (with_text x.keep (with_keep x.text (with_mode commands x)))) []

  give-undo : (b : Bool) → x.undoable ≡ b → AsksUndo x h → give x h ≡ answered x h.sheet (undo_by b)
  unfolding undo_by
  give-undo b u a =
      let room = length h.sheet - 16 in
      give-passed a.passes ∙ ap (answered x h.sheet)
      (entered-whole room h.line a.mode a.whole ∙ line_read room h.line _ a.reads ∙ ap undo_by u)

pub undo_ready : UndoReady
unfolding kind_of undo_by
undo_ready w v x h c b a =
    subst (λ (r : Reply). (r.answer.fault ≡ None) × (r.kind ≡ undoing)) (sym (give-undo x h true ((between_held b).undoable ∙ change_undoable c) a)) (refl, refl)

pub undo-refused : UndoRefused
unfolding undo_by
undo-refused w x h f b a = ap (λ (r : Reply). r.answer.fault) (give-undo x h false ((between_held b).undoable ∙ fresh_nothing f) a)
