use Rattle.std.proofs.Common.{arith}
use Rattle.ffs_maps.proofs.Counting.{ones_in_word}
use Rattle.ffs_maps.proofs.FragmentMap.count_in_word.Goals as goal

pub returns : goal.returns
returns c = search (arith, ones_in_word)
