use Rattle.std.proofs.Common.{◌≡◌, ℕ, ◌<◌, Bool, true, not, length, sym, ap, ◌∙◌, arith, lt-ltb}
use Rattle.std.proofs.lemmas.List.{length-map}
use Rattle.lines.specs.Store.{Store}
use Rattle.shelf.specs.Shelf.{Shelf}
use Rattle.rules.specs.Commands.{Outcome}
use Rattle.rules.specs.Doing.{kept_if}
use Rattle.rules.specs.Giving.{typed_in}
use Rattle.rules.specs.Lines.{page, seen, seen_lines, unchosen}
use Rattle.rules.specs.World.{World, typing, with_mode, with_text, with_unsaved}
use Rattle.state.specs.Worlds.{world_of}
use Rattle.commanding.proofs.Typing.{typed_put}
use Rattle.commanding.proofs.appending.put_typed.Goals as goal
use Rattle.commanding.proofs.appending.put_typed.Goals.{then-not-any, else-not-any}

pub returns-clause-world : goal.returns-clause-world
returns-clause-world g c =
    let t = g.T.LineStore.meaning c.args.desk.now.text.now in
    let k = g.K.LineStore.meaning c.args.desk.now.keep.now in
    let s = c.args.desk.now.session.now in
    let w : Shelf → World = λ h. world_of s t k h in
    let line = c.args.line.bytes.now in
    let kept : Bool → World → World = λ b v. kept_if b (page (unchosen (seen_lines t)) c.args.before) v in
    let d = c.if-not-any.desk in
    let now : Shelf → World = λ h. world_of d.session.now (g.T.LineStore.meaning d.text.now) (g.K.LineStore.meaning d.keep.now) h in
    let done : World → World = λ v. with_mode (typing c.args.before true) (with_unsaved true v) in
    let room : length (seen_lines t) < s.capacity = omega (arith, length-map t.lines seen) in
    let current : d.session.now.current ≡ s.current = elim c.if-not-any.branch [
      | then-not-any b ↦ ap (λ e. e.session.now.current) b.desk-is ∙ b.keep_text.ensures.current
      | else-not-any b ↦ ap (λ e. e.session.now.current) b.desk-is
    ] in
    let text : g.T.LineStore.meaning d.text.now ≡ t = elim c.if-not-any.branch [
      | then-not-any b ↦ ap (λ e. g.T.LineStore.meaning e.text.now) b.desk-is ∙ b.keep_text.ensures.text
      | else-not-any b ↦ ap (λ e. g.T.LineStore.meaning e.text.now) b.desk-is
    ] in
    let filled : (h : Shelf) → now h ≡ kept (not c.args.any) (w h) = λ h. elim c.if-not-any.branch [
      | then-not-any b ↦ ap (λ e. world_of e.session.now (g.T.LineStore.meaning e.text.now) (g.K.LineStore.meaning e.keep.now) h) b.desk-is
          ∙ b.keep_text.ensures.world h ∙ ap (λ x. kept (not x) (w h)) (sym b.if-not-any.true)
      | else-not-any b ↦ ap (λ e. world_of e.session.now (g.T.LineStore.meaning e.text.now) (g.K.LineStore.meaning e.keep.now) h) b.desk-is
          ∙ ap (λ x. kept (not x) (w h)) (sym b.if-not-any.false)
    ] in
    λ h.
    ap done (c.put_behind_current.ensures.world h)
    ∙ ap (λ (x : Store). done (with_text (typed_in (page (seen_lines x) d.session.now.current) line) (now h))) text
    ∙ ap (λ (n : ℕ). done (with_text (typed_in (page (seen_lines t) n) line) (now h))) current
    ∙ ap (λ (v : World). done (with_text (typed_in (w h).text line) v)) (filled h)
    ∙ sym (ap (λ (o : Outcome). o.world) (typed_put (w h) c.args.before c.args.any line c.requires (lt-ltb (length (seen_lines t)) s.capacity room)))
