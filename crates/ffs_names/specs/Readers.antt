-- The reader of a volume's directories that a survey goes over.
use Rattle.std.specs.Prelude.{◌≡◌, ◌*◌, ℕ, List, [], Option, Some, slice_index, if◌then◌else◌, Bool, vec_len, length}
use Rattle.std.specs.Borrow.{GName}
use Rattle.ffs_image.specs.Device.{Device}
use Rattle.ffs_volume.specs.{declared.Layout.Layout, Directories.Roles.{RoledEntry, is_dir, roled_entries}}
use Rattle.ffs_volume.specs.{Directories.Volumes.volume_of, Encodings.{Kinds.kind_at, Notes.note_at}}
use Rattle.ffs_volume.specs.{Blocks.Inodes.inodes_of, Costs.Calm.is_directory_of_right_shape, Disk.Areas.FitsIn}
use Rattle.ffs_workspace.specs.{Tables.IsTableOf, declared.workspace.Windows.Windows}
use Rattle.ffs_walk.specs.Windows.{BlocksHold, WindowHolds}

-- what a reader of directories is over: a layout, the image's bytes where it gives them, the kinds
-- of inodes and what is noted of them, and what it was lent
pub record Base : Type 0 where
  pub layout : Layout
  pub contents : Option (List ℕ)
  pub kinds : List ℕ
  pub notes : List ℕ
  pub image_lent : GName
  pub windows_lent : GName

-- these are the image's bytes, and the kinds and notes are those of its inodes
pub record KnowsReader (t : Base) (b : List ℕ) : Type 0 where
  pub bytes : t.contents ≡ Some b
  pub kinds : (x : ℕ) → slice_index t.kinds x ≡ kind_at t.layout b x
  pub notes : (x : ℕ) → slice_index t.notes x ≡ note_at t.layout b x

-- the entries of a directory, and none of another inode
abbrev pub dir_entries : Base → List ℕ → ℕ → List RoledEntry
dir_entries t b dir = if is_dir (volume_of t.layout b) dir then roled_entries (volume_of t.layout b) dir else []

-- a number is that of a directory of right shape
abbrev pub dir_right_shape : Base → List ℕ → ℕ → Bool
dir_right_shape t b = is_directory_of_right_shape (volume_of t.layout b)

-- the windows have room, and hold what the image gives; its lists have an entry for each inode
pub record IsReaderReady (v : Layout) (d : Device) (windows : Windows) (kinds notes : List ℕ) : Type 0 where
  pub volume : FitsIn v d.size
  pub table : IsTableOf v windows.table
  pub blocks : vec_len windows.blocks.buffer ≡ 3 * v.bsize
  pub current : vec_len windows.current.buffer ≡ v.bsize
  pub other : vec_len windows.other.buffer ≡ v.bsize
  pub table_holds : WindowHolds d.contents windows.table.window
  pub blocks_hold : BlocksHold v d.contents windows.blocks
  pub current_holds : WindowHolds d.contents windows.current
  pub other_holds : WindowHolds d.contents windows.other
  pub kinds_long : length kinds ≡ inodes_of v
  pub notes_long : length notes ≡ inodes_of v
