use Rattle.std.proofs.Common.{◌≡◌, true, false, ◌+◌, rules, ◌∙◌}
use Rattle.std.specs.Option.{option_map}
use Rattle.std.proofs.lemmas.Iterator.{first_from_Range}
use Rattle.command.specs.Marks.{bit_of}
use Rattle.tags.specs.Bearing.{bearing}
use Rattle.tags.proofs.Finding.{found_bearing}
use Rattle.tags.proofs.marks.find_mark.Goals as goal

pub returns-clause-value : goal.returns-clause-value
returns-clause-value g c =
    let s = g.T.LineStore.meaning c.args.text.now in
    let k = bit_of c.args.mark.letter in
    let first = first_from_Range _ _ _ _ (λ i. bearing k s (i + 1) ≡ true) (λ i. bearing k s (i + 1) ≡ false) c.find.ensures.ran
    (λ x q h. search rules)
    (λ x q h. (search rules, search rules)) in
    let up : c.map.result ≡ option_map (λ i. i + 1) c.find.result = search rules in
    up ∙ found_bearing k s c.count.result c.find.result c.count.ensures first
