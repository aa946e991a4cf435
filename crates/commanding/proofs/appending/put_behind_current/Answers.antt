use Rattle.std.proofs.Common.{◌≡◌, ℕ, ◌+◌, List, ap, ◌∙◌, add-one}
use Rattle.rules.specs.Giving.{typed_in}
use Rattle.rules.specs.Lines.{Line, page, seen_lines}
use Rattle.rules.specs.World.{with_text}
use Rattle.state.specs.Worlds.{world_of}
use Rattle.commanding.proofs.Typing.{typed-lines}
use Rattle.commanding.proofs.appending.put_behind_current.Goals as goal

pub returns-clause-world : goal.returns-clause-world
returns-clause-world g c =
    let t = g.T.LineStore.meaning c.args.desk.now.text.now in
    let k = g.K.LineStore.meaning c.args.desk.now.keep.now in
    let s = c.args.desk.now.session.now in
    let line = c.args.line.bytes.now in
    let lines : seen_lines (g.T.LineStore.meaning c.put_line.new.text) ≡ (typed_in (page (seen_lines t) s.current) line).lines = ap seen_lines c.put_line.ensures ∙ typed-lines t s.current line in
    λ h.
    ap (λ (ls : List Line). with_text (page ls (s.current + 1)) (world_of s t k h)) lines
    ∙ ap (λ (n : ℕ). with_text (page (typed_in (page (seen_lines t) s.current) line).lines n) (world_of s t k h)) (add-one s.current)
