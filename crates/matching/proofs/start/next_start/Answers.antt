use Rattle.std.proofs.Common.{◌≡◌, ◌<◌, ◌∷◌, map, length, drop, sym, ap, ◌∙◌, arith, rules}
use Rattle.std.proofs.lemmas.List.{take_rest, length-drop}
use Rattle.matching.specs.Rows.{longest_end}
use Rattle.patterns.specs.View.{item_of}
use Rattle.matching.proofs.Starts.{starred_hopeless, once_hopeless, first_mapped}
use Rattle.matching.proofs.start.next_start.Goals as goal

pub returns-then-first-clause-hopeless : goal.returns-then-first-clause-hopeless
returns-then-first-clause-hopeless c = λ back none s a b. (
    let items = c.args.items.now in
    let line = c.args.line.now in
    let first = c.first-item.result in
    let some : 0 < length items = search rules in
    let e : map item_of items ≡ item_of first ∷ map item_of (drop 1 items) = first_mapped items first some c.first-item.is in
    let few = simp (take_rest, length-drop) at c.inside.ensures.few in
    let run = simp take_rest at c.inside.ensures.run in
    ap (λ xs. longest_end xs back line s) e
    ∙ starred_hopeless (item_of first) (map item_of (drop 1 items)) back line c.if-first.true c.args.start c.inside.result (omega arith) run
    (ap (λ xs. longest_end xs back line c.args.start) (sym e) ∙ none) s a b)

pub returns-else-first-clause-hopeless : goal.returns-else-first-clause-hopeless
returns-else-first-clause-hopeless c = λ back none s a b. (
    let items = c.args.items.now in
    let line = c.args.line.now in
    let first = c.first-item.result in
    let some : 0 < length items = search rules in
    let e : map item_of items ≡ item_of first ∷ map item_of (drop 1 items) = first_mapped items first some c.first-item.is in
    let few = simp (take_rest, length-drop) at c.outside.ensures.few in
    let run = simp take_rest at c.outside.ensures.run in
    ap (λ xs. longest_end xs back line s) e
    ∙ once_hopeless (item_of first) (map item_of (drop 1 items)) back line c.if-first.false c.args.start c.outside.result (omega arith) run
    (ap (λ xs. longest_end xs back line c.args.start) (sym e) ∙ none) s a b)
