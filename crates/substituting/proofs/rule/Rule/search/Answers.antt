use Rattle.std.proofs.Common.{◌≡◌, Some, None, Option, sym, ap, ◌∙◌}
use Rattle.std.specs.Option.{option_map, option_copied}
use Rattle.patterns.specs.declared.pattern.Pattern.{Pattern as PatternCode}
use Rattle.patterns.specs.View.{meaning}
use Rattle.substituting.proofs.Searching.{answered, found_by, found_of}
use Rattle.substituting.proofs.rule.Rule.search.Goals as goal

pub returns-in_err-pattern-clause-value : goal.returns-in_err-pattern-clause-value
returns-in_err-pattern-clause-value c =
    let r = c.args.self.now in
    let e : None ≡ r.pattern = sym (ap option_copied c.in_err-pattern.was) ∙ c.as_ref.ensures.value in
    c.from_residual.ensures
    ∙ ap (λ (o : Option PatternCode). found_by (option_map meaning o) c.args.line.bytes.now c.args.from) e
    ∙ found_of r.pattern r.substitution.sought c.args.line.bytes.now c.args.from r.read

pub returns-clause-value : goal.returns-clause-value
returns-clause-value c =
    let r = c.args.self.now in
    let p = c.in_ok-pattern.pattern.now in
    let e : Some p ≡ r.pattern = sym (ap option_copied c.in_ok-pattern.was) ∙ c.as_ref.ensures.value in
    c.unwrap_or.ensures
    ∙ answered (meaning p) c.args.line.bytes.now c.args.from c.find.result c.args.line.short c.find.ensures.value
    ∙ ap (λ (o : Option PatternCode). found_by (option_map meaning o) c.args.line.bytes.now c.args.from) e
    ∙ found_of r.pattern r.substitution.sought c.args.line.bytes.now c.args.from r.read
