use Rattle.std.proofs.Common.{arith}
use Rattle.printing.proofs.Digits.{number-length}
use Rattle.printing.proofs.numbers.number_size.Goals as goal

pub returns : goal.returns
returns c = let size = number-length c.args.n (omega arith) in cc
