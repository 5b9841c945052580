use Rattle.std.proofs.Common.{arith}
use Rattle.ffs_claims.proofs.FreeInodes.{free_next}
use Rattle.ffs_claims.proofs.free.free_inodes_end.Goals as goal

pub loop-next-preserved : goal.loop-next-preserved
loop-next-preserved c = free_next c.loop-next.invariant (record { held = omega arith; free = grind arith })
