use Rattle.std.proofs.Common.{ℕ, ◌≡◌, ◌<◌, false}
use Rattle.ffs_volume.specs.Blocks.Inodes.{is_allocated}
use Rattle.ffs_groups.specs.Inodes.{class_in}
use Rattle.ffs_counts.proofs.pass4.any_allocated.Given as goal

abbrev pub invariant-loop-kind : goal.invariant-loop-kind
invariant-loop-kind l = l.any ≡ false → (k : ℕ) → k < l.kind-index → is_allocated (class_in l.kinds k) ≡ false
