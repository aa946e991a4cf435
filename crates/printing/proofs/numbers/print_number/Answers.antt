use Rattle.std.proofs.Common.{◌≡◌, [], ◌∷◌, ◌++◌, sym, ap, ◌∙◌, arith, rules}
use Rattle.std.specs.Fmt.{decimal}
use Rattle.printing.specs.Sheets.{written}
use Rattle.printing.proofs.Digits.{numbered_is}
use Rattle.printing.proofs.numbers.print_number.Goals as goal

pub returns : goal.returns
returns c =
    let same : c.as_bytes-digits.result.now ≡ decimal c.args.n = search rules in
    c.print_sized.ensures
    ∙ ap (λ x. written c.args.sheet.now c.args.at (x ++ (10 ∷ []))) same
    ∙ ap (written c.args.sheet.now c.args.at) (sym (numbered_is c.args.n (omega arith)))
