use Rattle.std.proofs.Common.{◌≡◌, ◌-◌, ◌≤◌, length, max}
use Rattle.ffs_counts.specs.Summing.{files_among}
use Rattle.ffs_counts.proofs.summing.file_count.Given as goal

abbrev pub invariant-loop-inode : goal.invariant-loop-inode
invariant-loop-inode l = record {
  files : l.files ≡ files_among l.kinds 2 l.inode;
  above : 2 ≤ l.inode;
  within : l.inode ≤ max (length l.kinds) 2;
}

abbrev pub decreases-loop-inode : goal.decreases-loop-inode
decreases-loop-inode l = length l.kinds - l.inode
