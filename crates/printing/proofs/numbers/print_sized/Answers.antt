use Rattle.std.proofs.Common.{◌≡◌, ◌+◌, ◌-◌, [], ◌∷◌, length, set, ap, ◌∙◌, arith}
use Rattle.printing.specs.Sheets.{written}
use Rattle.printing.proofs.Sheets.{length-written, written_one, written_more}
use Rattle.printing.proofs.numbers.print_sized.Goals as goal

pub bounds-sheet-at : goal.bounds-sheet-at
bounds-sheet-at c =
    let whole = length-written c.args.sheet.now c.args.at c.args.digits.now (omega (arith, c.requires.size)) in
    rw (c.write_bytes.ensures, whole) (omega (arith, c.requires.size))

pub returns : goal.returns
returns c =
    let sheet = c.args.sheet.now in
    let at = c.args.at in
    let ds = c.args.digits.now in
    let end : at + c.args.size - 1 ≡ at + length ds = omega (arith, c.requires.size) in
    let whole = length-written sheet at ds (omega (arith, c.requires.size)) in
    ap (λ x. set x (at + c.args.size - 1) 10) c.write_bytes.ensures
    ∙ ap (λ k. set (written sheet at ds) k 10) end
    ∙ written_one (written sheet at ds) (at + length ds) 10 (omega (arith, c.requires.size))
    ∙ written_more sheet at ds (10 ∷ []) (omega (arith, c.requires.size))
