use Rattle.ffs_groups.proofs.Checks.{bits_are, sums_as}
use Rattle.std.proofs.Common.{arith}
use Rattle.ffs_volume.specs.Groups.Records.{has_right_magic, has_right_record}
use Rattle.ffs_groups.proofs.check.compare_group.Goals as goal

pub returns : goal.returns
unfolding has_right_magic has_right_record
returns c = grind (arith, sums_as, bits_are)
