use Rattle.std.proofs.Common.{arith}
use Rattle.ffs_volume.proofs.LevelLaws.{reached-level}
use Rattle.ffs_paths.{proofs.NoSlashes.down_single}
use Rattle.ffs_paths.proofs.path.put_directory.Goals as goal

pub returns-in_ok-climb-clause-path : goal.returns-in_ok-climb-clause-path
returns-in_ok-climb-clause-path g c = grind (arith, reached-level, down_single)
