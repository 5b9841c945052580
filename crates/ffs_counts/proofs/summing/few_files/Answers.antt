use Rattle.std.proofs.Common.{arith}
use Rattle.ffs_groups.proofs.Sums.{one_counted}
use Rattle.ffs_counts.proofs.summing.few_files.Goals as goal

pub loop-inode-preserved : goal.loop-inode-preserved
loop-inode-preserved c = grind (arith, one_counted)
