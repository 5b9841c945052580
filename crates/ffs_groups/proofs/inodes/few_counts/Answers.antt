use Rattle.std.proofs.Common.{arith}
use Rattle.ffs_groups.proofs.Sums.{one_counted}
use Rattle.ffs_groups.proofs.inodes.few_counts.Goals as goal

pub loop-inode-preserved : goal.loop-inode-preserved
loop-inode-preserved c = grind (arith, one_counted)
