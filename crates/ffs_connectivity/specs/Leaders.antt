-- The leaders of cycles of parents: the least directory of each.
use Rattle.std.specs.Prelude.{◌≡◌, ℕ, length}
use Rattle.ffs_volume.specs.Directories.Climb.{is_leader_within}
use Rattle.ffs_connectivity.specs.Cycles.{parent_in}
use Rattle.ffs_workspace.specs.{declared.workspace.Workspace.Workspace, Holds.bool_at}

-- `flags` is set of the leaders, one for each cycle of parents, and of no other inode
pub record HasLeaders (w : Workspace) : Type 0 where
  pub cycles : (x : ℕ) → bool_at w.flags.items x ≡ is_leader_within (parent_in w.parents.items)
      (length w.parents.items) x
