use Rattle.std.proofs.Common.{ℕ, List, map, sym, ap, ◌∙◌}
use Rattle.std.specs.List.{fold}
use Rattle.lines.specs.Store.{line_at}
use Rattle.command.specs.View.{substitution_view}
use Rattle.rules.specs.Patterns.{substituted}
use Rattle.rules.specs.Pieces.{Piece}
use Rattle.substituting.specs.Reckoning.{reckoned_line, reckoned_pieces}
use Rattle.substituting.specs.Spelling.{line_of}
use Rattle.substituting.proofs.Summing.{pieces_hit}
use Rattle.substituting.proofs.Tallying.{reckoned_news}
use Rattle.substituting.proofs.reckoning.Reckoned.with_line.Goals as goal

pub returns-in-Some : goal.returns-in-Some
returns-in-Some g c =
    let s = substitution_view c.args.rule.now.substitution in
    let t = (line_at (g.T.LineStore.meaning c.args.line.now.store.now) c.args.line.now.n).text in
    let k = c.args.self in
    c.with_lines.ensures
    ∙ ap (λ (ls : List (List ℕ)). fold reckoned_line k (map line_of ls)) c.new.ensures
    ∙ ap (λ (x : List ℕ). fold reckoned_line k (map line_of (substituted s x))) c.in-Some.ensures.line
    ∙ reckoned_news (substituted s t) k
    ∙ sym (ap (λ (ps : List Piece). reckoned_pieces k ps) (pieces_hit s c.args.line.now.n t (sym c.in-Some.ensures.hit)))
