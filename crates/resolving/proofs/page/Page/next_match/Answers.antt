use Rattle.std.proofs.Common.{ℕ, take, drop, Option, sym, ap, ◌∙◌, arith}
use Rattle.std.proofs.lemmas.List.{length-map}
use Rattle.patterns.specs.View.{meaning as pattern_meaning}
use Rattle.rules.specs.Addresses.{or_else}
use Rattle.rules.specs.Lines.{seen, seen_lines, first_where}
use Rattle.resolving.specs.Lookup.{fits}
use Rattle.resolving.proofs.Seeking.{next_found, next_none, within_more}
use Rattle.resolving.proofs.page.Page.next_match.Goals as goal

pub returns-in_default : goal.returns-in_default
returns-in_default g c = record {
  value = sym (next_none (seen_lines (g.T.LineStore.meaning c.args.self.now.text.now)) c.args.self.now.current c.args.part.now c.in_default.field-0 (sym c.in_default.ensures));
  within = tt;
}

pub returns-in-Some : goal.returns-in-Some
returns-in-Some g c =
    let s = g.T.LineStore.meaning c.args.self.now.text.now in
    let p = pattern_meaning c.in-Ok.pattern in
    let n = next_found (seen_lines s) c.args.self.now.current c.args.part.now p c.count.result (omega (arith, length-map s.lines seen)) (sym c.in-Ok.ensures) in
    record {
      value = ap (λ (o : Option ℕ). or_else o (first_where (fits p) 1 (drop 0 (take c.args.self.now.current (seen_lines s))))) c.in-Some.ensures.value ∙ sym n;
      within = omega (arith, c.in-Some.ensures.within);
    }

pub returns-in-None : goal.returns-in-None
returns-in-None g c =
    let s = g.T.LineStore.meaning c.args.self.now.text.now in
    let p = pattern_meaning c.in-Ok.pattern in
    let n = next_found (seen_lines s) c.args.self.now.current c.args.part.now p c.count.result (omega (arith, length-map s.lines seen)) (sym c.in-Ok.ensures) in
    record {
      value = c.find_match-in-None.ensures.value ∙ ap (λ (o : Option ℕ). or_else o (first_where (fits p) 1 (drop 0 (take c.args.self.now.current (seen_lines s))))) c.in-None.ensures.value ∙ sym n;
      within = within_more c.find_match-in-None.result c.args.self.now.current _ (omega arith) c.find_match-in-None.ensures.within;
    }
