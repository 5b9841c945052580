use Rattle.std.proofs.Common.{◌≤◌, ◌-◌, max}
use Rattle.ffs_groups.specs.Inodes.{AreCounted, class_in}
use Rattle.ffs_groups.proofs.inodes.inode_counts.Given as goal

abbrev pub invariant-loop-inode : goal.invariant-loop-inode
invariant-loop-inode l = record {
  counted : AreCounted (class_in l.kinds) (max l.first 2) l.inode l.counts.dirs l.counts.free;
  above : max l.first 2 ≤ l.inode;
  within : l.inode ≤ max l.end (max l.first 2);
}

abbrev pub decreases-loop-inode : goal.decreases-loop-inode
decreases-loop-inode l = l.end - l.inode
