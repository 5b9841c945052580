-- When a volume is consistent, said without the phases of a check and without its messages.
use Rattle.std.specs.{Prelude.{◌≡◌, ℕ, true, List}, List.list_all}
use Rattle.ffs_volume.specs.{Disk.Superblock.Superblock, Blocks.Owners.owners_of, Consistent.BlocksRight.is_right_class}
use Rattle.ffs_volume.specs.Consistent.{BlocksRight.AreRunsRight, GroupsRight.AreGroupsRight}
use Rattle.ffs_volume.specs.Consistent.{GroupsRight.is_free_of_runs, DirectoriesRight.AreDirsRight}
use Rattle.ffs_volume.specs.{Consistent.DirectoriesRight.{AreLinksRight, AreCountsRight}, Directories.Volumes.class_at}
use Rattle.ffs_volume.specs.{Directories.Volumes.whole_volume, Report.Opening.{has_valid_optim, has_valid_minfree}}

-- the settings are possible ones
pub record AreSettingsRight (s : Superblock) : Type 0 where
  pub optimization : has_valid_optim s ≡ true
  pub minfree : has_valid_minfree s ≡ true

-- the seven conditions of a consistent volume
pub record IsConsistent (image : List ℕ) (s : Superblock) : Type 0 where
  -- optim and minfree are possible ones
  pub settings : AreSettingsRight s
  -- each inode is free, a file or a directory
  pub classes : list_all (λ o. is_right_class o.class) (owners_of s.layout image) ≡ true
  -- each Run is in range, none has a reserved fragment, no fragment is used twice, there is no Tail,
  -- and each blocks field is right
  pub runs : AreRunsRight s.layout (owners_of s.layout image)
  -- inode 2 is a directory, and each directory holds what it should
  pub dirs : AreDirsRight (whole_volume s.layout image)
  -- no plain entry names the root, and its `..` is the root; each other directory is named by exactly one plain
  -- entry, is reached, and has the right `..`
  pub links : AreLinksRight (whole_volume s.layout image)
  -- each count of links is that of the references
  pub counts : AreCountsRight (whole_volume s.layout image)
  -- the groups' records and the superblock's totals are right
  pub groups : AreGroupsRight s.layout image s.cstotal (is_free_of_runs s.layout (owners_of s.layout image))
      (class_at s.layout image)
