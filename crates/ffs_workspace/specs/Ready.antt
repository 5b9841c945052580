-- A workspace as it is made, one that is ready for the volume of an image, and one that can be read into.
use Rattle.std.specs.Prelude.{◌≡◌, ◌*◌, ◌≤◌, ℕ, false, List, Option, Result, IfOk, replicate, vec_len}
use Rattle.ffs_image.specs.Device.{Device}
use Rattle.ffs_memory.specs.Account.{Account, Asks}
use Rattle.ffs_volume.specs.{declared.Layout.Layout, Blocks.Inodes.inodes_of, Disk.Areas.FitsIn}
use Rattle.ffs_walk.specs.Windows.{BlocksHold, WindowHolds}
use Rattle.ffs_workspace.specs.{declared.workspace.{Windows.Windows, Workspace.Workspace}, Holds.IsFresh, Lengths.IsFor}
use Rattle.ffs_workspace.specs.{Lengths.HoldWindows, Tables.TableHolds}

-- its lists and windows have the lengths of the volume, and the image has all of the volume: what a phase
-- needs. Its windows may hold what another image gave
pub record IsReady (v : Layout) (d : Device) (w : Workspace) : Type 0 where
  pub made : IsFor v w
  pub volume : FitsIn v d.size

-- it is ready, and its windows hold what this image gives: what is asked of them may be taken from them
pub record CanRead (v : Layout) (d : Device) (w : Workspace) : Type 0 where
  pub ready : IsReady v d w
  pub windows : HoldWindows v d.contents w

-- only its windows have changed, and they hold what the image gives now
pub record LeavesAllButWindows (v : Layout) (d : Device) (old new : Workspace) : Type 0 where
  pub held : new ≡ record old { windows = new.windows }
  pub can_read : CanRead v d new

-- nothing is surveyed: no inode is named or reached, and none has a flag, a parent or a place
pub record IsUnsurveyed (v : Layout) (w : Workspace) : Type 0 where
  pub surveyed : w.surveyed ≡ false
  pub named : w.named.items ≡ replicate (inodes_of v) false
  pub reached : w.reached.items ≡ replicate (inodes_of v) false
  pub flags : w.flags.items ≡ replicate (inodes_of v) false
  pub parents : w.parents.items ≡ replicate (inodes_of v) 0
  pub words : w.words.items ≡ replicate (inodes_of v) 0

-- no Run is counted yet, and nothing of a current inode
pub record IsUncounted (w : Workspace) : Type 0 where
  pub runs_seen : w.runs_seen ≡ 0
  pub runs_again : w.runs_again ≡ 0
  pub bad : w.bad ≡ 0
  pub dup_offers : w.dup_offers ≡ 0
  pub kept : w.kept ≡ 0
  pub tail : w.tail ≡ false

-- its lists and windows have the lengths of the volume, nothing was found yet, and the windows hold nothing, and
-- so what any image gives
pub record IsNew (v : Layout) (w : Workspace) : Type 0 where
  pub made : IsFor v w
  pub fresh : IsFresh v w
  pub has_dups : w.has_dups ≡ false
  pub unsurveyed : IsUnsurveyed v w
  pub uncounted : IsUncounted w
  pub windows : (contents : Option (List ℕ)) → HoldWindows v contents w

-- how often the memory for a workspace is asked for: for two maps, nine lists of inodes and four buffers
abbrev pub workspace_requests : ℕ
workspace_requests = 15

-- P holds of what was made in so many bytes of memory, or a request for them was refused
pub record MakesInMemory {T E : Type 0} (before after : Account) (bytes : ℕ) (result : Result T E) (P : T → Type 0) :
    Type 0 where
  pub new : IfOk result P
  pub asks : Asks before after bytes result

-- the windows have room for six blocks, and hold nothing, and so what any image gives
pub record AreNewWindows (v : Layout) (w : Windows) : Type 0 where
  pub table : vec_len w.table.window.buffer ≡ v.bsize
  pub blocks : vec_len w.blocks.buffer ≡ 3 * v.bsize
  pub current : vec_len w.current.buffer ≡ v.bsize
  pub other : vec_len w.other.buffer ≡ v.bsize
  pub table_holds : (contents : Option (List ℕ)) → TableHolds v contents w.table
  pub blocks_hold : (contents : Option (List ℕ)) → BlocksHold v contents w.blocks
  pub current_holds : (contents : Option (List ℕ)) → WindowHolds contents w.current
  pub other_holds : (contents : Option (List ℕ)) → WindowHolds contents w.other
