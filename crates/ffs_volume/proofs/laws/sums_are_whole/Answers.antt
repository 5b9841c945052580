use Rattle.ffs_volume.proofs.LawsHold.{sums_whole}
use Rattle.ffs_volume.proofs.laws.sums_are_whole.Goals as goal

pub returns : goal.returns
returns c = sums_whole
