use Rattle.ffs_volume.proofs.LawsHold.{paths_fit}
use Rattle.ffs_volume.proofs.laws.paths_fit.Goals as goal

pub returns : goal.returns
returns c = paths_fit
