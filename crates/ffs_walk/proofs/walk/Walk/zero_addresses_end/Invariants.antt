use Rattle.std.proofs.Common.{◌≡◌, ℕ, ◌<◌, ◌≤◌, slice_index}
use Rattle.ffs_walk.proofs.walk.Walk.zero_addresses_end.Given as goal

abbrev pub invariant-loop-index : goal.invariant-loop-index
invariant-loop-index l = (k : ℕ) → l.self.next ≤ k → k < l.index → slice_index l.self.addresses k ≡ 0
