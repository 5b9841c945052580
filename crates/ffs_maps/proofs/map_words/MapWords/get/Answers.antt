use Rattle.std.proofs.Common.{arith}
use Rattle.ffs_maps.proofs.Words.{length_seen, untouched_at}
use Rattle.ffs_maps.proofs.map_words.MapWords.get.Goals as goal

pub untouched_word-requires : goal.untouched_word-requires
untouched_word-requires c = grind (arith, length_seen)

pub returns-then-len-index : goal.returns-then-len-index
returns-then-len-index c = grind (arith, length_seen, untouched_at)
