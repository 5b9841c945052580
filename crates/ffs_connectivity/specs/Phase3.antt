-- What phase 3 needs of a workspace at an inode, and how its lists say whether the inode is reported.
use Rattle.std.specs.Prelude.{ℕ, ◌<◌, ◌≤◌, ◌==◌, nat_le, Bool, not, ◌&&◌, ◌||◌, length}
use Rattle.ffs_image.specs.Device.{Device}
use Rattle.ffs_volume.specs.{declared.Layout.Layout, Blocks.Inodes.inodes_of}
use Rattle.ffs_volume.specs.{declared.constants.TheConstants.ROOTINO, Encodings.Kinds.is_dir_at}
use Rattle.ffs_survey.specs.Survey.{bool_at, dead_at, number_at}
use Rattle.ffs_workspace.specs.{declared.workspace.Workspace.Workspace, Ready.CanRead}
use Rattle.ffs_connectivity.specs.Leaders.{HasLeaders}

-- the windows hold what the image gives, x is an inode of the volume, and it is known which directories
-- lead a cycle of parents
pub record CanReportUnref (v : Layout) (d : Device) (w : Workspace) (x : ℕ) : Type 0 where
  pub ready : CanRead v d w
  pub number : (2 ≤ x) × (x < inodes_of v)
  pub leaders : HasLeaders w

-- x is dead, by the lists
abbrev pub is_dead_inode : Workspace → ℕ → Bool
is_dead_inode w x = dead_at w.kinds.items w.marked.items w.named.items x

-- d is reported, by the lists: a directory that is neither reached nor dead, and without a parent, with a dead
-- one, or the least number on a cycle of parents
unfoldable pub is_unref_by : Workspace → ℕ → Bool
is_unref_by w d = let parent = number_at w.parents.items d in
    is_dir_at w.kinds.items d && (not (d == ROOTINO) && (not (bool_at w.reached.items d) && (not (is_dead_inode w d)
    && ((parent == 0) || (nat_le (length w.kinds.items) parent || (is_dead_inode w parent || bool_at w.flags.items d))))))
