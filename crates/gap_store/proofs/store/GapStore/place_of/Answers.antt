use Rattle.std.proofs.Common.{rules}
use Rattle.gap_store.specs.Meaning.{meaning_of}
use Rattle.gap_store.specs.Stored.{count_of}
use Rattle.gap_store.proofs.store.GapStore.place_of.Goals as goal

pub place-requires : goal.place-requires
unfolding meaning_of
place-requires c = let count = count_of c.args.self.now in search rules
