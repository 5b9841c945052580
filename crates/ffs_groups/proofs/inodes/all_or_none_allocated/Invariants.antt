use Rattle.std.proofs.Common.{ℕ, ◌<◌, ◌≤◌, slice_index}
use Rattle.ffs_groups.proofs.inodes.all_or_none_allocated.Given as goal

abbrev pub invariant-loop-kind : goal.invariant-loop-kind
invariant-loop-kind l = record {
  least : (k : ℕ) → k < l.kind-index → l.least ≤ slice_index l.kinds k;
  most : (k : ℕ) → k < l.kind-index → slice_index l.kinds k ≤ l.most;
}
