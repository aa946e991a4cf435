use Rattle.std.proofs.Common.{◌≡◌, true, false, ◌+◌, rules, tests, ◌∙◌}
use Rattle.std.specs.Option.{option_map}
use Rattle.std.proofs.lemmas.Iterator.{first_from_Range}
use Rattle.tags.proofs.Finding.{found_first, passes}
use Rattle.tags.proofs.chosen.next_chosen.Goals as goal

pub returns-clause-value : goal.returns-clause-value
returns-clause-value g c =
    let s = g.T.LineStore.meaning c.args.text.now in
    let first = first_from_Range _ _ _ _ (λ i. passes (λ l. l.chosen) s i ≡ true) (λ i. passes (λ l. l.chosen) s i ≡ false) c.find.ensures.ran
    (λ x q k. search (rules, tests))
    (λ x q k. (search rules, search (rules, tests))) in
    let up : c.map.result ≡ option_map (λ i. i + 1) c.find.result = search rules in
    up ∙ found_first (λ l. l.chosen) s c.args.behind c.count.result c.find.result c.count.ensures first
