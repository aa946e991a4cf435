use Rattle.std.proofs.Common.{◌≡◌, ◌-◌, ◌≤◌, length, ap, arith}
use Rattle.lines.specs.Store.{Store}
use Rattle.editing.specs.Shapes.{without}
use Rattle.editing.proofs.Seeing.{deleted_lines, deleted_front}
use Rattle.editing.proofs.blocks.delete_range.Goals as goal

pub returns : goal.returns
returns g c =
    let was = g.T.LineStore.meaning c.args.text.now in
    let f = c.args.range.first in
    let l = c.args.range.last in
    let le : f - 1 ≤ length was.lines = omega arith in
    let after : g.T.LineStore.meaning c.take_lines.new.text ≡ without was f l = c.take_lines.ensures in
    record {
      store = after;
      lines = rw after (deleted_lines was f l);
      capacity = ap (λ (s : Store). s.capacity) after;
      front = rw after (deleted_front was f l le);
    }
