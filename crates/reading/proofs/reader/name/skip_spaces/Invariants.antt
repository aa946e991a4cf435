use Rattle.std.proofs.Common.{◌≡◌, length}
use Rattle.reading.specs.Names.{behind_spaces}
use Rattle.reading.proofs.reader.name.skip_spaces.Given as goal

abbrev pub invariant-loop-rest : goal.invariant-loop-rest
invariant-loop-rest l = behind_spaces l.rest ≡ behind_spaces l.bytes

abbrev pub decreases-loop-rest : goal.decreases-loop-rest
decreases-loop-rest l = length l.rest
