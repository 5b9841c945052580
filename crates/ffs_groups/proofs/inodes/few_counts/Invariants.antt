use Rattle.std.proofs.Common.{◌≤◌}
use Rattle.ffs_groups.specs.Inodes.{AreCounted, class_in}
use Rattle.ffs_groups.proofs.inodes.few_counts.Given as goal

abbrev pub invariant-loop-inode : goal.invariant-loop-inode
invariant-loop-inode l = record {
  counted : AreCounted (class_in l.kinds) l.first l.inode l.counts.dirs l.counts.free;
  within : l.inode ≤ l.end;
}
