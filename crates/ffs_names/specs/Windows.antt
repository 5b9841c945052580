-- When the windows of a directory's blocks and chunks can be read into.
use Rattle.std.specs.Prelude.{◌≡◌, ◌+◌, ◌*◌, ◌<◌, ◌≤◌, vec_len}
use Rattle.ffs_image.specs.Device.{Device}
use Rattle.ffs_volume.specs.{declared.Layout.Layout, Disk.Areas.FitsIn}
use Rattle.ffs_walk.specs.{declared.{blocks.Blocks.Blocks, window.Window.Window}, Windows.{BlocksHold, WindowHolds}}
use Rattle.ffs_names.specs.declared.run_cursor.RunCursor.{RunCursor}

-- the image has all of the volume, and the buffer of indirect blocks has a block of each level and
-- holds what the image gives
pub record CanWalkDir (v : Layout) (d : Device) (blocks : Blocks) : Type 0 where
  pub volume : FitsIn v d.size
  pub room : vec_len blocks.buffer ≡ 3 * v.bsize
  pub holds : BlocksHold v d.contents blocks

-- the chunks can be read too: their window has room for a block, and holds what the image gives
pub record CanReadChunks (v : Layout) (d : Device) (blocks : Blocks) (chunk : Window) : Type 0 where
  pub walk : CanWalkDir v d blocks
  pub room : vec_len chunk.buffer ≡ v.bsize
  pub holds : WindowHolds d.contents chunk

-- the next chunk of a Run can be read: one is left, the image has the Run, and the window has room
-- for its chunks, and holds what the image gives
pub record CanReadRun (cursor : RunCursor) (d : Device) (w : Window) : Type 0 where
  pub left : cursor.next < cursor.count
  pub room : cursor.length ≤ vec_len w.buffer
  pub inside : cursor.place + cursor.length ≤ d.size
  pub holds : WindowHolds d.contents w
