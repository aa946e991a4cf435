use Rattle.std.proofs.Common.{◌≡◌, true, false, ◌+◌, rules, ◌∙◌}
use Rattle.std.specs.Option.{option_map}
use Rattle.std.proofs.lemmas.Iterator.{first_from_Range}
use Rattle.patterns.specs.View.{meaning as pattern_meaning}
use Rattle.tags.proofs.Finding.{found_among, passes}
use Rattle.resolving.specs.Lookup.{fits}
use Rattle.resolving.proofs.lookup.find_match.Goals as goal

pub returns-clause-value : goal.returns-clause-value
returns-clause-value g c =
    let s = g.T.LineStore.meaning c.args.text.now in
    let test = fits (pattern_meaning c.args.pattern.now) in
    let first = first_from_Range _ _ _ _ (λ i. passes test s i ≡ true) (λ i. passes test s i ≡ false) c.find.ensures.ran
    (λ x q k. search rules)
    (λ x q k. (search rules, search rules)) in
    let up : c.map.result ≡ option_map (λ i. i + 1) c.find.result = search rules in
    up ∙ found_among test s c.args.to c.requires c.args.from c.find.result first
