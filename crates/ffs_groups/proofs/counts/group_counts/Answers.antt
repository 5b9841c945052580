use Rattle.std.proofs.Common.{arith}
use Rattle.ffs_groups.proofs.Checks.{are_counts}
use Rattle.ffs_groups.proofs.counts.group_counts.Goals as goal

pub returns : goal.returns
returns c = search (arith, are_counts)
