use Rattle.std.proofs.Common.{◌+◌, ◌*◌, ◌∙◌, arith}
use Rattle.reading.proofs.Digits.{digits_on, number_over}
use Rattle.reading.proofs.reader.Reader.number.Goals as goal

pub returns-then-value-gt-NUMBER_MAX-clause-value : goal.returns-then-value-gt-NUMBER_MAX-clause-value
returns-then-value-gt-NUMBER_MAX-clause-value c =
    let l = c.loop-digit in
    let digit = c.in-Some.digit in
    let left = c.digit-in-loop-digit.new.self.rest.now in
    number_over c.args.self.now.rest.now (l.value * 10 + digit) left (digits_on l.value l.self.rest.now digit left c.in-Some.ensures.value ∙ l.invariant.1) (omega arith)
