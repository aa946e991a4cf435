use Rattle.std.proofs.Common.{◌≡◌, ℕ, ◌+◌, ◌-◌, ◌<◌, ◌≤◌, true, false, length, get_or, refl, arith, rules}
use Rattle.std.proofs.lemmas.List.{take_rest, length-drop, get_or-drop}
use Rattle.patterns.specs.Items.{Item}
use Rattle.patterns.specs.Sets.{has}
use Rattle.patterns.specs.View.{members}
use Rattle.matching.proofs.Rows.{run_after, run_spans}
use Rattle.matching.proofs.reach.steps.run_on.Goals as goal

pub returns : goal.returns
returns c =
    let i : Item = record { set = members c.args.set.now; starred = true } in
    let line = c.args.line.now in
    let old = c.args.row.now in
    let reach = c.args.reach in
    let n = c.inside-more.result in
    let next = c.with_run-next.ensures in
    let some : reach.low < reach.end = reach.some in
    let few = simp (take_rest, length-drop) at c.inside-more.ensures.few in
    let fits : reach.end + n ≤ length line + 1 = omega (arith, few, c.requires.within) in
    let run : (k : ℕ) → k < n → has i.set (get_or line (reach.end - 1 + k) 0) ≡ true = λ k h. simp (take_rest, get_or-drop) at (c.inside-more.ensures.run k h) in
    let stop : reach.end - 1 + n < length line → has i.set (get_or line (reach.end - 1 + n) 0) ≡ false =
    λ h. simp (take_rest, get_or-drop) at (c.inside-more.ensures.stop (simp (take_rest, length-drop) (omega arith))) in
    let width : c.with_run-next.result.end - reach.end ≡ n = omega (arith, next.end) in
    let long : length c.fill.new.self ≡ c.with_run-next.result.end - reach.end = search rules in
    let full : (k : ℕ) → k < length c.fill.new.self → get_or c.fill.new.self k false ≡ true = λ k h. search rules in
    record {
      after = run_after i line old reach c.requires.spans c.requires.within c.requires.long refl c.requires.solid n fits run stop c.fill.new.self (c.with_run-next.result.end - reach.end) width long full;
      spans = run_spans i line old reach c.requires.spans c.requires.within c.requires.long refl c.requires.solid n fits run stop c.fill.new.self (c.with_run-next.result.end - reach.end) width long full c.with_run-next.result next.low next.end;
      within = omega (arith, next.end, fits);
    }
