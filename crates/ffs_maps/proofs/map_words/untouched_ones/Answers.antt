use Rattle.std.proofs.Common.{arith}
use Rattle.ffs_maps.proofs.Counting.{none_counted}
use Rattle.ffs_maps.proofs.map_words.untouched_ones.Goals as goal

pub returns-in-None : goal.returns-in-None
returns-in-None c = grind (arith, none_counted)
