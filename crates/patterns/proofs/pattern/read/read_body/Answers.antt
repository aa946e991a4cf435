use Rattle.std.proofs.Common.{◌≡◌, ◌-◌, ◌<◌, eqb, [], ◌∷◌, ◌++◌, map, length, ap, ◌∙◌, arith, rules}
use Rattle.std.proofs.lemmas.List.{map_push}
use Rattle.std.proofs.lemmas.Result.{err_from_is_err_and}
use Rattle.std.proofs.lemmas.Bool.{ne_eqb}
use Rattle.patterns.specs.Reading.{item_at}
use Rattle.patterns.specs.View.{item_of}
use Rattle.patterns.proofs.Steps.{items_done, items_bad, items_on}
use Rattle.patterns.proofs.pattern.read.read_body.Goals as goal

pub returns-in-Some : goal.returns-in-Some
returns-in-Some c =
    let xs = c.loop-back.items.items in
    let made = c.of_parts.ensures in
    rw (made.front, made.items, made.back)
    (items_done c.args.front (eqb (length xs) 0) c.args.delimiter (64 - length xs) (map item_of xs) c.loop-back.reader.rest.now c.args.body.now
    c.loop-back.invariant.1 c.in-Some.back c.in-Some.ensures)

pub returns-in_err-item : goal.returns-in_err-item
returns-in_err-item c =
    let xs = c.loop-back.items.items in
    let p = err_from_is_err_and c.from_residual.result c.from_residual.ensures.1 in
    let room : length xs < 64 = search rules in
    let first : item_at c.args.delimiter c.is_empty.result c.loop-back.reader.rest.now ≡ item_at c.args.delimiter (eqb (length xs) 0) c.loop-back.reader.rest.now =
    ap (λ t. item_at c.args.delimiter t c.loop-back.reader.rest.now) c.is_empty.ensures in
    rw (p.1, p.2)
    (items_bad c.args.front (eqb (length xs) 0) c.args.delimiter (64 - length xs) (map item_of xs) c.loop-back.reader.rest.now c.args.body.now
    c.loop-back.invariant.1 c.in_err-item.field-0.0 (omega arith) c.in_default.ensures (c.in_err-item.ensures ∙ first))

pub loop-back-preserved : goal.loop-back-preserved
loop-back-preserved c =
    let xs = c.loop-back.items.items in
    let item = c.in_ok-item.item in
    let rest = c.item.new.self.rest.now in
    let room : length xs < 64 = search rules in
    let first : item_at c.args.delimiter c.is_empty.result c.loop-back.reader.rest.now ≡ item_at c.args.delimiter (eqb (length xs) 0) c.loop-back.reader.rest.now =
    ap (λ t. item_at c.args.delimiter t c.loop-back.reader.rest.now) c.is_empty.ensures in
    let e = items_on c.args.front (eqb (length xs) 0) c.args.delimiter (64 - length xs) (map item_of xs) c.loop-back.reader.rest.now c.args.body.now
    c.loop-back.invariant.1 (item_of item) rest (omega arith) c.in_default.ensures (c.in_ok-item.ensures ∙ first) in
    let more : map item_of c.push.new.self.items ≡ map item_of xs ++ item_of item ∷ [] =
    ap (map item_of) c.push.ensures.items ∙ map_push item_of xs item in
    let long = c.push.ensures.len in
    let n : 64 - length c.push.new.self.items ≡ 64 - length xs - 1 = omega arith in
    let t = ne_eqb (length c.push.new.self.items) 0 (omega arith) in
    (omega arith, cc)
