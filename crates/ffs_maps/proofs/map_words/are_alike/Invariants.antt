use Rattle.std.proofs.Common.{ℕ, ◌≡◌, ◌↔◌, ◌<◌, get_or}
use Rattle.ffs_maps.proofs.map_words.are_alike.Given as goal

abbrev pub invariant-loop-index : goal.invariant-loop-index
invariant-loop-index l = (l.differ ≡ 0) ↔ ((k : ℕ) → k < l.index → get_or l.words k 0 ≡ l.word)
