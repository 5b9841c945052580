use Rattle.std.proofs.Common.{arith}
use Rattle.ffs_maps.proofs.Words.{length_seen}
use Rattle.ffs_maps.proofs.map_words.MapWords.len.Goals as goal

pub returns : goal.returns
returns c = grind (arith, length_seen)
