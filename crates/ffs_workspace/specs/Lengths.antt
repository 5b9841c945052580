-- The lengths of the lists of a workspace, and what its windows hold.
use Rattle.std.specs.Prelude.{◌≡◌, ◌*◌, ℕ, List, Option, vec_len}
use Rattle.ffs_volume.specs.{declared.Layout.Layout, Blocks.Inodes.inodes_of}
use Rattle.ffs_walk.specs.Windows.{WindowHolds, BlocksHold}
use Rattle.ffs_workspace.specs.{declared.workspace.Workspace.Workspace, Tables.TableHolds}

-- the workspace was made for the volume: all its lists and windows have the lengths that it asks for
pub record IsFor (v : Layout) (w : Workspace) : Type 0 where
  pub used : w.used.size ≡ v.size
  pub duplicates : w.duplicates.size ≡ v.size
  pub kinds : vec_len w.kinds ≡ inodes_of v
  pub marked : vec_len w.marked ≡ inodes_of v
  pub named : vec_len w.named ≡ inodes_of v
  pub reached : vec_len w.reached ≡ inodes_of v
  pub flags : vec_len w.flags ≡ inodes_of v
  pub references : vec_len w.references ≡ inodes_of v
  pub notes : vec_len w.notes ≡ inodes_of v
  pub parents : vec_len w.parents ≡ inodes_of v
  pub words : vec_len w.words ≡ inodes_of v
  pub table : vec_len w.windows.table.window.buffer ≡ v.bsize
  pub blocks : vec_len w.windows.blocks.buffer ≡ 3 * v.bsize
  pub current : vec_len w.windows.current.buffer ≡ v.bsize
  pub other : vec_len w.windows.other.buffer ≡ v.bsize

-- the windows hold what the image gives
pub record HoldWindows (v : Layout) (contents : Option (List ℕ)) (w : Workspace) : Type 0 where
  pub table : TableHolds v contents w.windows.table
  pub blocks : BlocksHold v contents w.windows.blocks
  pub current : WindowHolds contents w.windows.current
  pub other : WindowHolds contents w.windows.other
