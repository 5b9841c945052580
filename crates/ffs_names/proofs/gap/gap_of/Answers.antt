use Rattle.std.proofs.Common.{arith}
use Rattle.ffs_names.proofs.{Advances.{gap_ended, over_rest}, Continuing.counts_here}
use Rattle.ffs_names.proofs.gap.gap_of.Goals as goal

pub returns-then-is_over : goal.returns-then-is_over
returns-then-is_over g c = grind (arith, gap_ended, over_rest, counts_here)
