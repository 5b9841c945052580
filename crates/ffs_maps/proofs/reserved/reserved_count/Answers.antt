use Rattle.std.proofs.Common.{arith}
use Rattle.ffs_maps.proofs.{Counting.count_within}
use Rattle.ffs_maps.proofs.reserved.reserved_count.Goals as goal

pub overflow_add-count : goal.overflow_add-count
overflow_add-count c = grind (arith, count_within)
