use Rattle.std.proofs.Common.{◌≡◌, true}
use Rattle.ffs_volume.specs.{Disk.Numbers.all_below}
use Rattle.ffs_groups.specs.Check.{same_frsum_at}
use Rattle.ffs_groups.proofs.check.same_frsum.Given as goal

abbrev pub invariant-loop-length : goal.invariant-loop-length
invariant-loop-length l = all_below l.length (λ k. same_frsum_at l.found l.right k) ≡ true
