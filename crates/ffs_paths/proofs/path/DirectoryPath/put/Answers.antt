use Rattle.std.proofs.{Common.arith, lemmas.Bool.both_ways}
use Rattle.ffs_volume.specs.Directories.Paths.{dir_path}
use Rattle.ffs_paths.proofs.Rooms.{by_path}
use Rattle.ffs_paths.proofs.path.DirectoryPath.put.Goals as goal

pub returns-then-self : goal.returns-then-self
unfolding dir_path
returns-then-self c = grind (arith, by_path, both_ways)

pub returns-else-self : goal.returns-else-self
unfolding dir_path
returns-else-self c = grind (arith, by_path, both_ways)
