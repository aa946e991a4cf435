use Rattle.std.proofs.Common.{◌≡◌, true, List, ℕ, ◌∷◌, ◌++◌, take, drop, Some, Option, is_some, sym, ap, ◌∙◌}
use Rattle.std.specs.Option.{option_copied}
use Rattle.arrayvec.specs.ArrayVec.{ArrayVec}
use Rattle.lines.specs.Line.{fitting}
use Rattle.lines.specs.Store.{Store}
use Rattle.rules.specs.Lines.{seen_lines, created}
use Rattle.substituting.specs.Rest.{lines_of}
use Rattle.substituting.proofs.Placing.{seen-inserted, fitting_short, fitting_unbroken, next_put, same_items, putting_more}
use Rattle.substituting.proofs.rewriting.put_lines.Goals as goal

pub unwrap-bytes-requires : goal.unwrap-bytes-requires
unwrap-bytes-requires g c =
    let k = next_put _ _ _ _ _ _ _ _ c.loop-lines.invariant (c.next_line.ensures.some c.loop-lines-test.true) in
    c.as_ref.ensures.variant ∙ ap (λ (o : Option (ArrayVec ℕ)). is_some o) k.first-is

pub invariant_of-put_line : goal.invariant_of-put_line
invariant_of-put_line g c =
    let k = next_put _ _ _ _ _ _ _ _ c.loop-lines.invariant (c.next_line.ensures.some c.loop-lines-test.true) in
    let w = c.deref.result.now in
    let whole : Some c.unwrap-bytes.result.now ≡ c.next_line.new.line = sym (ap option_copied c.unwrap-bytes.ensures) ∙ c.as_ref.ensures.value in
    let fits : fitting w ≡ true = ap fitting (c.deref.ensures.0 ∙ same_items c.unwrap-bytes.result.now k.line (whole ∙ k.first-is)) ∙ k.fits in
    record { short = fitting_short w fits; unbroken = fitting_unbroken w fits }

pub loop-lines-preserved : goal.loop-lines-preserved
loop-lines-preserved g c =
    let now = g.T.LineStore.meaning c.loop-lines.text in
    let b = c.loop-lines.done in
    let k = next_put _ _ _ _ _ _ _ _ c.loop-lines.invariant (c.next_line.ensures.some c.loop-lines-test.true) in
    let whole : Some c.unwrap-bytes.result.now ≡ c.next_line.new.line = sym (ap option_copied c.unwrap-bytes.ensures) ∙ c.as_ref.ensures.value in
    let same = c.deref.ensures.0 ∙ same_items c.unwrap-bytes.result.now k.line (whole ∙ k.first-is) in
    record {
      lines = k.others;
      rest-is = k.rest-is;
      putting = putting_more (lines_of c.args.lines) (g.T.LineStore.meaning c.args.text.now) now (g.T.LineStore.meaning c.put_line.new.text) c.args.behind b
          k.line k.others k.putting
          (ap seen_lines c.put_line.ensures ∙ seen-inserted now.lines b _
          ∙ ap (λ (x : List ℕ). take b (seen_lines now) ++ (created x ∷ drop b (seen_lines now))) same)
          (ap (λ (x : Store). x.capacity) c.put_line.ensures);
    }
