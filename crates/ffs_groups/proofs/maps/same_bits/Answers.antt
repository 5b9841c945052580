use Rattle.std.proofs.Common.{refl}
use Rattle.ffs_volume.specs.{Disk.Numbers.all_below}
use Rattle.ffs_groups.proofs.MapWords.{same_by_mask}
use Rattle.ffs_groups.proofs.maps.same_bits.Goals as goal

pub returns-then-count-eq0 : goal.returns-then-count-eq0
unfolding all_below
returns-then-count-eq0 c = rw c.if-count-eq0.true refl

pub returns : goal.returns
returns c = same_by_mask c.args.found c.args.right c.args.count c.requires
