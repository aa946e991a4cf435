use Rattle.std.proofs.Common.{◌≡◌, ◌-◌, ◌≤◌, min, length, ap, arith}
use Rattle.lines.specs.Store.{Store}
use Rattle.editing.specs.Shapes.{with_swapped}
use Rattle.editing.proofs.Seeing.{raised_lines, lowered_lines, swapped_front}
use Rattle.editing.proofs.blocks.move_range.Goals as goal

pub returns-then-behind-range : goal.returns-then-behind-range
returns-then-behind-range g c =
    let was = g.T.LineStore.meaning c.args.text.now in
    let f = c.args.range.first in
    let l = c.args.range.last in
    let t = c.args.behind in
    let le : t ≤ length was.lines = omega arith in
    let after : g.T.LineStore.meaning c.raise_range.new.text ≡ with_swapped was t (f - 1) l = c.raise_range.ensures in
    record {
      lines = rw after (raised_lines was f l t c.args.range.some (omega arith));
      capacity = ap (λ (s : Store). s.capacity) after;
      front = rw after (swapped_front was (min t (f - 1)) t (f - 1) l (omega arith) le);
    }

pub returns-else-behind-range : goal.returns-else-behind-range
returns-else-behind-range g c =
    let was = g.T.LineStore.meaning c.args.text.now in
    let f = c.args.range.first in
    let l = c.args.range.last in
    let t = c.args.behind in
    let le : f - 1 ≤ length was.lines = omega arith in
    let after : g.T.LineStore.meaning c.lower_range.new.text ≡ with_swapped was (f - 1) l t = c.lower_range.ensures in
    record {
      lines = rw after (lowered_lines was f l t c.args.range.some (omega arith));
      capacity = ap (λ (s : Store). s.capacity) after;
      front = rw after (swapped_front was (min t (f - 1)) (f - 1) l t (omega arith) le);
    }
