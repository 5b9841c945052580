use Rattle.std.proofs.Common.{arith}
use Rattle.ffs_maps.proofs.Words.{length_seen, lays}
use Rattle.ffs_maps.proofs.map_words.MapWords.lay_reserved.Goals as goal

pub invariant_of-self : goal.invariant_of-self
invariant_of-self c = grind (arith, length_seen)

pub returns : goal.returns
returns c = grind (arith, lays)
