-- What is known of a directory once it is begun.
use Rattle.std.specs.Prelude.{◌≡◌, ℕ, List}
use Rattle.ffs_volume.specs.{declared.Layout.Layout, Blocks.Inodes.inode_of, Directories.Roles.roled_entries}
use Rattle.ffs_volume.specs.Directories.Volumes.{volume_of}
use Rattle.ffs_workspace.specs.declared.workspace.Workspace.{Workspace}
use Rattle.ffs_pathnames.specs.{declared.look.FirstLook.FirstLook, PassedNames.{are_quiet, after_looks}, Sees.passed_of}

-- its inode is read, its entries were looked at, and each inode that belongs to it is stamped
pub record IsDirectoryBegun (v : Layout) (b : List ℕ) (dir : ℕ) (old : Workspace) (f : FirstLook) (new : Workspace)
    :
    Type 0 where
  pub inode : f.inode ≡ inode_of v b dir
  pub quiet : f.chunks.quiet ≡ are_quiet (volume_of v b) dir old.flags.items (passed_of old).stamps
      (roled_entries (volume_of v b) dir)
  pub passed : passed_of new
      ≡ record {
        flags = old.flags.items;
        stamps = after_looks (volume_of v b) dir (passed_of old).stamps (roled_entries (volume_of v b) dir);
      }
