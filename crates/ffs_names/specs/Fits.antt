-- Where the current Run lies, and one that is to be the current Run.
use Rattle.std.specs.Prelude.{◌≡◌, ℕ, ◌+◌, ◌*◌, ◌%◌, ◌<◌, ◌≤◌, ◌^◌, IsTrue}
use Rattle.ffs_volume.specs.{declared.Layout.Layout, Disk.Areas.is_run_in_range}
use Rattle.ffs_names.specs.declared.run_cursor.RunCursor.{RunCursor}

-- the chunks of the current Run have a block's bytes at most and lie in the volume, and the first of
-- them begins a fragment
pub record CursorFits (v : Layout) (cursor : RunCursor) : Type 0 where
  pub in_block : cursor.length ≤ v.bsize
  pub in_volume : cursor.place + cursor.length ≤ v.size * v.fsize
  pub at_fragment : cursor.place % v.fsize ≡ 0

-- a Run of data of a block at most can be begun: it is in range, and of its directory no more than 2^31
-- bytes are read
pub record CanBeginRun (v : Layout) (bytes_to_read start len : ℕ) : Type 0 where
  pub few : bytes_to_read ≤ 2 ^ 31
  pub some : 0 < len
  pub short : len ≤ v.frag
  pub in_range : IsTrue (is_run_in_range v start len)
