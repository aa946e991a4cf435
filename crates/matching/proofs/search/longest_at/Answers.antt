use Rattle.std.proofs.Common.{◌≡◌, ◌+◌, ◌<◌, false, ◌⊎◌, [], ◌∷◌, ◌++◌, map, length, take, drop, sym, ap, ◌∙◌, subst, inl, inr, arith}
use Rattle.std.proofs.lemmas.List.{map_more, map-append, take-append-drop, take_all}
use Rattle.matching.specs.Rows.{NoneReached}
use Rattle.patterns.specs.View.{item_of}
use Rattle.matching.proofs.Reached.{Row, row_start, span_start, row_step, row_stuck, nowhere, short_of_end, highest}
use Rattle.matching.proofs.search.longest_at.Goals as goal
use Rattle.matching.proofs.search.longest_at.Goals.{else-back-via-then-back+else-reach-line, else-back-via-else-back}

pub loop-item-init : goal.loop-item-init
loop-item-init c =
    let at = c.at-reach.ensures in (
      row_start c.args.line.now c.args.start c.args.row.now c.requires.clear c.requires.inside (omega arith),
      span_start c.args.start c.args.row.now c.requires.clear (omega arith) c.at-reach.result at.low at.end,
      omega arith,
    )

pub returns-in_err-reach-clause-value : goal.returns-in_err-reach-clause-value
returns-in_err-reach-clause-value c =
    let l = c.loop-item in
    let items = c.args.items.now in
    let line = c.args.line.now in
    let row = c.advance.new.row in
    let front = map item_of (take l.item-index items) ++ item_of c.item-item.result ∷ [] in
    let rest = map item_of (drop (l.item-index + 1) items) in
    let says = row_step (item_of c.item-item.result) (map item_of (take l.item-index items)) line c.args.start l.row l.invariant.0 row c.in_err-reach.ensures.after in
    let none : NoneReached row = c.in_err-reach.ensures.spans in
    let more : map item_of (take (l.item-index + 1) items) ≡ front =
    map_more item_of items l.item-index c.item-item.result (omega arith) ∙ ap (λ i. map item_of (take l.item-index items) ++ item_of i ∷ []) (sym c.item-item.is) in
    let whole : front ++ rest ≡ map item_of items =
    ap (λ xs. xs ++ rest) (sym more) ∙ sym (map-append item_of (take (l.item-index + 1) items) (drop (l.item-index + 1) items))
    ∙ ap (map item_of) (take-append-drop (l.item-index + 1) items) in
    let all : Row (map item_of items) line c.args.start row =
    subst (λ xs. Row xs line c.args.start row) whole (row_stuck line c.args.start row none front rest says) in
    c.from_residual.ensures ∙ nowhere (map item_of items) c.args.back line c.args.start c.requires.inside row all none

pub loop-item-preserved : goal.loop-item-preserved
loop-item-preserved c =
    let l = c.loop-item in
    let items = c.args.items.now in
    let line = c.args.line.now in
    let row = c.advance.new.row in
    let says = row_step (item_of c.item-item.result) (map item_of (take l.item-index items)) line c.args.start l.row l.invariant.0 row c.in_ok-reach.ensures.after in
    let more : map item_of (take (l.item-index + 1) items) ≡ map item_of (take l.item-index items) ++ item_of c.item-item.result ∷ [] =
    map_more item_of items l.item-index c.item-item.result (omega arith) ∙ ap (λ i. map item_of (take l.item-index items) ++ item_of i ∷ []) (sym c.item-item.is) in (
      subst (λ xs. Row xs line c.args.start row) (sym more) says,
      c.in_ok-reach.ensures.spans,
      c.in_ok-reach.ensures.within,
    )

pub returns-then-reach-line : goal.returns-then-reach-line
returns-then-reach-line c =
    let l = c.loop-item in
    let items = c.args.items.now in
    let all : Row (map item_of items) c.args.line.now c.args.start l.row =
    subst (λ xs. Row (map item_of xs) c.args.line.now c.args.start l.row) (take_all l.item-index items (omega arith)) l.invariant.0 in
    record {
      value = short_of_end (map item_of items) c.args.back c.args.line.now c.args.start c.requires.inside l.row all l.reach l.invariant.1
          c.if-back.true c.if-reach-line.true;
      clear = c.clear.ensures;
    }

pub returns : goal.returns
returns c =
    let l = c.loop-item in
    let items = c.args.items.now in
    let all : Row (map item_of items) c.args.line.now c.args.start l.row =
    subst (λ xs. Row (map item_of xs) c.args.line.now c.args.start l.row) (take_all l.item-index items (omega arith)) l.invariant.0 in
    let met : (c.args.back ≡ false) ⊎ (length c.args.line.now < l.reach.end) =
    elim c.else-back.branch [
      | else-back-via-then-back+else-reach-line w ↦ inr w.if-reach-line.false
      | else-back-via-else-back w ↦ inl w.if-back.false
    ] in
    record {
      value = highest (map item_of items) c.args.back c.args.line.now c.args.start c.requires.inside l.row all l.reach l.invariant.1 met l.invariant.2;
      clear = tt;
    }
