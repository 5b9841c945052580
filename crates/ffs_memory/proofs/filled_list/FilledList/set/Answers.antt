use Rattle.std.proofs.Common.{arith}
use Rattle.ffs_memory.proofs.Touched.{same_filled, set_filled, set_next}
use Rattle.ffs_memory.proofs.filled_list.FilledList.set.Goals as goal

pub returns-then-len-index : goal.returns-then-len-index
returns-then-len-index g c = grind (arith, set_next)

pub returns-else-len-index : goal.returns-else-len-index
returns-else-len-index g c = grind (arith, set_filled, same_filled)
