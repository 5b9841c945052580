use Rattle.std.proofs.Common.{◌≡◌, ◌*◌, length}
use Rattle.ffs_maps.specs.WordBits.{bits_of_words, set_among}
use Rattle.ffs_maps.proofs.map_words.ones_of.Given as goal

abbrev pub invariant-loop-index : goal.invariant-loop-index
invariant-loop-index l = l.count ≡ set_among (bits_of_words l.words (64 * length l.words)) 0 (64 * l.index)
