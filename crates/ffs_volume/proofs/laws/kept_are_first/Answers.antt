use Rattle.ffs_volume.proofs.PrefixLaws.{steps_first}
use Rattle.ffs_volume.proofs.laws.kept_are_first.Goals as goal

pub returns : goal.returns
returns c = steps_first
