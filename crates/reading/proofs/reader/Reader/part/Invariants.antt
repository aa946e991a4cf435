use Rattle.std.proofs.Common.{◌≡◌, false, take, drop}
use Rattle.reading.specs.Parts.{cut_at}
use Rattle.reading.proofs.Cut.{in_front}
use Rattle.reading.proofs.reader.Reader.part.Given as goal

-- the bytes passed belong to the part, and what is left is cut on
abbrev pub invariant-loop-at : goal.invariant-loop-at
invariant-loop-at l = in_front (take l.at l.bytes) (cut_at l.delimiter l.taken (drop l.at l.bytes)) ≡ cut_at l.delimiter false l.bytes
