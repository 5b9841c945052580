use Rattle.std.proofs.Common.{arith}
use Rattle.ffs_volume.{proofs.AreaLaws.group_below}
use Rattle.ffs_claims.proofs.UnclaimedRuns.{before_metadata, after_metadata, base_above, lies}
use Rattle.ffs_claims.proofs.area.DataArea.around.Goals as goal

pub returns-then-start-data : goal.returns-then-start-data
returns-then-start-data c = grind (arith, group_below, before_metadata, lies)

pub returns : goal.returns
returns c = grind (arith, group_below, base_above, after_metadata, lies)
