use Rattle.std.proofs.Common.{◌≡◌, refl, sym, ◌∙◌, rules}
use Rattle.std.proofs.lemmas.Iterator.{IsFirst-from_position, YieldsList-from_slice, index_from_first}
use Rattle.filing.specs.Counting.{line_length}
use Rattle.filing.proofs.Splitting.{length_hit, length_miss}
use Rattle.filing.proofs.reading_files.line_length.Goals as goal

pub returns : goal.returns
returns c =
    let bytes = c.args.bytes.now in
    let first = IsFirst-from_position _ _ c.position.result (λ b. b ≡ 10) (λ b. b ≡ 10 → ⊥) c.position.ensures.ran
    (YieldsList-from_slice bytes c.iter.ensures.rest) (λ x q k. search rules) (λ x q k. (search rules, search rules)) in
    c.unwrap_or.ensures ∙ sym (index_from_first line_length (λ b. b ≡ 10) (λ b. b ≡ 10 → ⊥) refl length_hit length_miss bytes c.position.result first)
