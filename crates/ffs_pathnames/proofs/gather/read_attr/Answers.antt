use Rattle.std.proofs.{Common.{arith}}
use Rattle.ffs_volume.specs.Directories.{PathnameCheck.{attributes}, Volumes.{volume_of, volume_with}}
use Rattle.ffs_pathnames.proofs.gather.read_attr.Goals as goal

pub inode_by_piece-requires : goal.inode_by_piece-requires
inode_by_piece-requires g c = grind arith

pub returns-in_err-inode : goal.returns-in_err-inode
returns-in_err-inode g c = grind arith

pub returns : goal.returns
unfolding attributes volume_of volume_with
returns g c = grind arith
