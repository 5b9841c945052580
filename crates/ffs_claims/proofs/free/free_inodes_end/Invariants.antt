use Rattle.std.proofs.Common.{◌≤◌, ◌<◌, ℕ}
use Rattle.ffs_claims.specs.FreeInodes.{IsFreeInode}
use Rattle.ffs_claims.proofs.free.free_inodes_end.Given as goal

abbrev pub invariant-loop-next : goal.invariant-loop-next
invariant-loop-next l = (x : ℕ) → l.number ≤ x → x < l.next → IsFreeInode l.table x
