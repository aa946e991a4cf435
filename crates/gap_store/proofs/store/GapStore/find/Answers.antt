use Rattle.std.proofs.Common.{rules}
use Rattle.gap_store.specs.Meaning.{meaning_of}
use Rattle.gap_store.specs.Stored.{count_of, located}
use Rattle.gap_store.proofs.store.GapStore.find.Goals as goal

pub returns : goal.returns
unfolding meaning_of
returns c =
    let s = c.args.self.now in
    let count = count_of s in
    located s c.args.n c.place_of.result (search rules) (search rules) c.place_of.ensures.value c.place_of.ensures.within c.index.result.now c.index.ensures
