use Rattle.ffs_volume.proofs.LevelLaws.{level-some, level-is}
use Rattle.ffs_volume.proofs.laws.levels_are_least.Goals as goal

pub returns : goal.returns
returns c = λ g k d. record { is_least = level-some g k d; is_found = level-is g k d }
