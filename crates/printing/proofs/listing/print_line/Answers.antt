use Rattle.std.proofs.Common.{◌≡◌, ℕ, ◌-◌, List, ◌++◌, length, take, drop, refl, arith, rules}
use Rattle.lines.specs.Store.{line_at}
use Rattle.printing.proofs.Sheets.{copied-line}
use Rattle.printing.proofs.listing.print_line.Goals as goal

pub returns : goal.returns
returns g c =
    let sheet : List ℕ = c.args.sheet.now in
    let line : List ℕ = (line_at (g.T.LineStore.meaning c.args.line.now.store.now) c.args.line.now.n).text in
    let rest : ℕ = length sheet - c.args.at in
    let size : c.unwrap-size.result ≡ length line = search rules in
    let copied : c.copy.new.buffer ≡ line ++ drop (length line) (take rest (drop c.args.at sheet)) = search rules in
    record {
      value = omega arith;
      after = copied-line sheet c.args.at rest c.unwrap-size.result line c.copy.new.buffer 10 refl size c.requires copied;
    }
