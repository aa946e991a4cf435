use Rattle.std.proofs.Common.{◌≡◌, ℕ, ◌<◌, ◌≤◌, map, length, IfSome, Some, None, Option, sym, ap, ◌∙◌, subst, arith}
use Rattle.matching.specs.declared.answer.Match.{Match}
use Rattle.matching.specs.Matching.{IsMatch, match_from, MatchingRight, MatchingOne}
use Rattle.matching.specs.Rows.{longest_end}
use Rattle.patterns.specs.Items.{Bytes, Pattern}
use Rattle.patterns.specs.View.{item_of, meaning}
use Rattle.matching.proofs.Found.{last_start, matching_right, matching_one, match_within}
use Rattle.matching.proofs.Starts.{pass, stop, no_more}
use Rattle.matching.proofs.search.first_match.Goals as goal
use Rattle.matching.proofs.search.first_match.Goals.{then-has_front_anchor, else-has_front_anchor}

-- all that is promised of an answer, from what it is
answered : (p : Pattern) (line : Bytes) (from : ℕ) (r : Option Match) → r ≡ match_from p line from
    → record {
      value : r ≡ match_from p line from;
      matched : IsMatch p line from r;
      within : IfSome r (λ x. (from ≤ x.start) × (x.start ≤ x.end) × (x.end ≤ length line));
      right : MatchingRight p line from;
      one : MatchingOne p line from;
    }
answered p line from r e =
    let right = matching_right p line from in
    let matched = subst (IsMatch p line from) (sym e) right in
    record { value = e; matched = matched; within = match_within p line from r matched; right = right; one = matching_one p line from }

pub returns-in-Some : goal.returns-in-Some
returns-in-Some c =
    let p = meaning c.args.pattern.now in
    let line = c.args.line.now in
    let l = c.loop-start in
    let last : c.if-has_front_anchor.last ≡ last_start p.front line =
    elim c.if-has_front_anchor.branch [
      | then-has_front_anchor w ↦ w.last-is ∙ ap (λ t. last_start t line) (sym w.if-has_front_anchor.true ∙ c.has_front_anchor.ensures)
      | else-has_front_anchor w ↦ w.last-is ∙ ap (λ t. last_start t line) (sym w.if-has_front_anchor.false ∙ c.has_front_anchor.ensures)
    ] in
    let e = c.in-Some.ensures.value
    ∙ ap (λ xs. longest_end xs c.has_end_anchor-back.result line l.start) c.items-items.ensures
    ∙ ap (λ t. longest_end p.items t line l.start) c.has_end_anchor-back.ensures in
    answered p line c.args.from (Some (record { start = l.start; end = c.in-Some.end }))
    (stop p line l.start c.in-Some.end (omega (arith, c.loop-start-test.true)) e ∙ l.invariant.0)

pub loop-start-preserved : goal.loop-start-preserved
loop-start-preserved c =
    let p = meaning c.args.pattern.now in
    let line = c.args.line.now in
    let l = c.loop-start in
    let r = c.next_start-start.result in
    let back = c.has_end_anchor-back.result in
    let e : (k : ℕ) → longest_end (map item_of c.items-items.result.now) back line k ≡ longest_end p.items p.back line k =
    λ k. ap (λ xs. longest_end xs back line k) c.items-items.ensures ∙ ap (λ t. longest_end p.items t line k) c.has_end_anchor-back.ensures in
    let none : (t : ℕ) → l.start ≤ t → t < r → longest_end p.items p.back line t ≡ None =
    λ t a b. sym (e t) ∙ c.next_start-start.ensures.hopeless back (sym c.in_default.ensures.value) t a b in
    (sym (pass p line l.start r (let f = c.next_start-start.ensures.forward in omega arith) none) ∙ l.invariant.0, c.in_default.ensures.clear)

pub returns : goal.returns
returns c =
    let p = meaning c.args.pattern.now in
    let line = c.args.line.now in
    let l = c.loop-start in
    let last : c.if-has_front_anchor.last ≡ last_start p.front line =
    elim c.if-has_front_anchor.branch [
      | then-has_front_anchor w ↦ w.last-is ∙ ap (λ t. last_start t line) (sym w.if-has_front_anchor.true ∙ c.has_front_anchor.ensures)
      | else-has_front_anchor w ↦ w.last-is ∙ ap (λ t. last_start t line) (sym w.if-has_front_anchor.false ∙ c.has_front_anchor.ensures)
    ] in
    answered p line c.args.from None (no_more p line l.start (omega (arith, c.loop-start-test.false)) ∙ l.invariant.0)
