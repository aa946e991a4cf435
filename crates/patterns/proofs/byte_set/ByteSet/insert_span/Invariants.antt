use Rattle.std.proofs.Common.{◌≡◌}
use Rattle.patterns.specs.Bits.{table_of}
use Rattle.patterns.proofs.Tables.{spanned}
use Rattle.patterns.proofs.byte_set.ByteSet.insert_span.Given as goal

abbrev pub invariant-loop-byte : goal.invariant-loop-byte
invariant-loop-byte l = table_of l.self.words ≡ spanned l.low l.byte (table_of l.initial.self.words)
