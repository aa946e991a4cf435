use Rattle.std.proofs.Common.{◌≡◌, ℕ, ◌-◌, ◌<◌, map, ◌+◌, List, ◌++◌, length, take, drop, sym, ap, ◌∙◌, arith}
use Rattle.std.proofs.lemmas.List.{length-map}
use Rattle.lines.specs.Store.{Store, line_at}
use Rattle.command.specs.View.{substitution_view}
use Rattle.lines.specs.Line.{all_fit}
use Rattle.rules.specs.Doing.{texts_of}
use Rattle.rules.specs.Lines.{Line, seen, seen_lines, created}
use Rattle.rules.specs.Patterns.{substituted}
use Rattle.substituting.specs.Made.{lines_for}
use Rattle.substituting.specs.Rest.{lines_of}
use Rattle.substituting.proofs.Placing.{front_gone, rest_gone, seen_removed, texts-created, lines_hit, lines_miss, around, length-gone}
use Rattle.substituting.proofs.rewriting.rewrite_line.Goals as goal

pub returns-in_default-clause-lines : goal.returns-in_default-clause-lines
returns-in_default-clause-lines g c =
    let t = g.T.LineStore.meaning c.args.text.now in
    let n = c.args.done in
    let l = seen (line_at t (n + 1)) in
    let e = lines_miss (substitution_view c.args.rule.now.substitution) l (sym c.in_default.ensures.hit) in
    around t n c.requires.present ∙ sym (ap (λ (ls : List Line). take n (seen_lines t) ++ (ls ++ drop (n + 1) (seen_lines t))) e)

pub put_lines-requires-clause-fits : goal.put_lines-requires-clause-fits
put_lines-requires-clause-fits g c =
    let t = g.T.LineStore.meaning c.args.text.now in
    let s = substitution_view c.args.rule.now.substitution in
    let l = seen (line_at t (c.args.done + 1)) in
    let made : lines_of c.new.result ≡ substituted s l.text = c.new.ensures ∙ ap (λ (x : List ℕ). substituted s x) c.in-Some.ensures.line in
    ap all_fit made
    ∙ sym (ap all_fit (ap texts_of (lines_hit s l (sym c.in-Some.ensures.hit)) ∙ texts-created (substituted s l.text)))
    ∙ c.requires.fits

pub put_lines-requires-clause-room : goal.put_lines-requires-clause-room
put_lines-requires-clause-room g c =
    let t = g.T.LineStore.meaning c.args.text.now in
    let left = g.T.LineStore.meaning c.take_line.new.text in
    let s = substitution_view c.args.rule.now.substitution in
    let n = c.args.done in
    let l = seen (line_at t (n + 1)) in
    let made : lines_of c.new.result ≡ substituted s l.text = c.new.ensures ∙ ap (λ (x : List ℕ). substituted s x) c.in-Some.ensures.line in
    let a : length (seen_lines t) ≡ length t.lines = length-map t.lines seen in
    let b : length (seen_lines left) ≡ length left.lines = length-map left.lines seen in
    let f : length (seen_lines left) + 1 ≡ length (seen_lines t) =
    ap (λ (ls : List Line). length ls + 1) (ap seen_lines c.take_line.ensures ∙ seen_removed t.lines (n + 1)) ∙ length-gone (seen_lines t) n (omega (arith, c.requires.present)) in
    let k : length (lines_for s l) ≡ length (lines_of c.new.result) =
    ap length (lines_hit s l (sym c.in-Some.ensures.hit)) ∙ length-map (substituted s l.text) created ∙ ap length (sym made) in
    omega (arith, c.requires.room, ap (λ (x : Store). x.capacity) c.take_line.ensures)

pub returns-clause-lines : goal.returns-clause-lines
returns-clause-lines g c =
    let t = g.T.LineStore.meaning c.args.text.now in
    let left = g.T.LineStore.meaning c.take_line.new.text in
    let s = substitution_view c.args.rule.now.substitution in
    let n = c.args.done in
    let l = seen (line_at t (n + 1)) in
    let here : n < length (seen_lines t) = omega (arith, length-map t.lines seen, c.requires.present) in
    let gone : seen_lines left ≡ take (n + 1 - 1) (seen_lines t) ++ drop (n + 1) (seen_lines t) = ap seen_lines c.take_line.ensures ∙ seen_removed t.lines (n + 1) in
    let made : lines_of c.new.result ≡ substituted s l.text = c.new.ensures ∙ ap (λ (x : List ℕ). substituted s x) c.in-Some.ensures.line in
    let new : map created (lines_of c.new.result) ≡ lines_for s l = ap (map created) made ∙ sym (lines_hit s l (sym c.in-Some.ensures.hit)) in
    c.put_lines.ensures.lines
    ∙ ap (λ (ls : List Line). take n ls ++ (map created (lines_of c.new.result) ++ drop n ls)) gone
    ∙ ap (λ (ls : List Line). ls ++ (map created (lines_of c.new.result) ++ drop n (take (n + 1 - 1) (seen_lines t) ++ drop (n + 1) (seen_lines t)))) (front_gone (seen_lines t) n here)
    ∙ ap (λ (ls : List Line). take n (seen_lines t) ++ (map created (lines_of c.new.result) ++ ls)) (rest_gone (seen_lines t) n here)
    ∙ ap (λ (ls : List Line). take n (seen_lines t) ++ (ls ++ drop (n + 1) (seen_lines t))) new
