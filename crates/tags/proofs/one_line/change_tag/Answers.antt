use Rattle.std.proofs.Common.{◌≡◌, rules}
use Rattle.lines.specs.Store.{line_at}
use Rattle.tags.proofs.Changing.{tagged, tagged_same, changed}
use Rattle.tags.proofs.one_line.change_tag.Goals as goal

pub returns-then-changed-tag-clause-lines : goal.returns-then-changed-tag-clause-lines
returns-then-changed-tag-clause-lines g c = λ f means.
    let s = g.T.LineStore.meaning c.args.text.now in
    let fit = (c.requires.change c.tag-tag.result c.tag-tag.ensures.defined).1 c.change-changed.result c.change-changed.ensures in
    let after : g.T.LineStore.meaning c.set_tag.new.self ≡ tagged s c.args.n c.change-changed.result = search rules in
    changed s _ c.args.n c.tag-tag.result c.change-changed.result f c.requires.line.0 c.requires.line.1 after c.tag-tag.ensures.value
    (means c.tag-tag.result c.change-changed.result c.tag-tag.ensures.defined c.change-changed.ensures).seen

pub returns-else-changed-tag-clause-lines : goal.returns-else-changed-tag-clause-lines
returns-else-changed-tag-clause-lines g c = λ f means.
    let s = g.T.LineStore.meaning c.args.text.now in
    let same : c.change-changed.result ≡ (line_at s c.args.n).tag = cc in
    changed s s c.args.n c.tag-tag.result c.change-changed.result f c.requires.line.0 c.requires.line.1 (tagged_same s c.args.n _ same) c.tag-tag.ensures.value
    (means c.tag-tag.result c.change-changed.result c.tag-tag.ensures.defined c.change-changed.ensures).seen
