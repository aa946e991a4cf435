use Rattle.std.proofs.Common.{◌≡◌, length, arith, rules}
use Rattle.filing.specs.Contents.{contents_from}
use Rattle.filing.proofs.Sizes.{contents-bounded}
use Rattle.filing.proofs.writing.file_size.Goals as goal

pub returns-clause-bounded : goal.returns-clause-bounded
returns-clause-bounded g c =
    let s = g.T.LineStore.meaning c.args.text.now in
    let value : c.map_or.result ≡ length (contents_from c.args.range s) = search rules in
    let bound = contents-bounded c.args.range s (g.met.T.LineStore.sound c.args.text.now) in
    omega arith
