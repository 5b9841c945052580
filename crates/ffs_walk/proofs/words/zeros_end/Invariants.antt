use Rattle.std.proofs.Common.{◌≡◌, ℕ, ◌-◌, ◌<◌, ◌≤◌}
use Rattle.ffs_volume.specs.Blocks.Steps.{address_in}
use Rattle.ffs_walk.proofs.WordBytes.{ZerosTo}
use Rattle.ffs_walk.proofs.words.zeros_end.Given as goal

abbrev pub invariant-loop-index-then-are_zeros : goal.invariant-loop-index-then-are_zeros
invariant-loop-index-then-are_zeros l = ZerosTo l.geometry.layout l.block l.next l.used l.index

abbrev pub decreases-loop-index-then-are_zeros : goal.decreases-loop-index-then-are_zeros
decreases-loop-index-then-are_zeros l = l.used - l.index

abbrev pub invariant-loop-index : goal.invariant-loop-index
invariant-loop-index l = ZerosTo l.geometry.layout l.block l.next l.used l.index

abbrev pub decreases-loop-index : goal.decreases-loop-index
decreases-loop-index l = l.used - l.index

abbrev pub invariant-loop-j : goal.invariant-loop-j
invariant-loop-j l = (k : ℕ) → l.next ≤ k → k < l.j → address_in l.geometry.layout l.block k ≡ 0
