-- Inodes that the window on the inode table holds and whose bytes say that they are free: what phase 1 passes over.
use Rattle.std.specs.{Prelude.{◌≡◌, ◌*◌, ◌+◌, ◌-◌, ◌<◌, ◌≤◌, ◌&&◌, ℕ, Bool, true, false, not, List, slice_index, vec_len}, List.slice_range}
use Rattle.ffs_volume.specs.{Blocks.Inodes.any_nonzero, declared.constants.TheConstants.DINODE_SIZE}
use Rattle.ffs_walk.specs.Windows.{held_bytes}
use Rattle.ffs_workspace.specs.{Tables.HoldsInode, declared.{table.Table.Table, workspace.Workspace.Workspace}}

-- no byte of an inode is set among those of its mode, its links and its size, and among those of its addresses
-- and its flags: so the inode is free. What else it has may be set, as the generation number that newfs(8) gives
-- each inode
abbrev pub is_free_by : List ℕ → Bool
is_free_by inode = not (any_nonzero (slice_range inode 0 16)) && not (any_nonzero (slice_range inode 40 104))

-- the bytes of the inode x in the window
abbrev pub inode_bytes : Table → ℕ → List ℕ
inode_bytes t x =
    slice_range (held_bytes t.window) (DINODE_SIZE * (x - t.first)) (DINODE_SIZE * (x - t.first) + DINODE_SIZE)

-- the window on the inode table has the bytes of each inode that it holds
pub record HasTableInodes (t : Table) : Type 0 where
  pub inside : (x : ℕ) → HoldsInode t x → DINODE_SIZE * (x - t.first) + DINODE_SIZE ≤ t.window.length
  pub fits : t.window.length ≤ vec_len t.window.buffer

-- the window on the inode table holds the inode x, and its bytes say that it is free
pub record IsFreeInode (t : Table) (x : ℕ) : Type 0 where
  pub held : HoldsInode t x
  pub free : is_free_by (inode_bytes t x) ≡ true

-- the window holds each inode from `number` on and below `next`, which is at most `end`, and each is free by its bytes
pub record EndsFreeInodes (t : Table) (number end next : ℕ) : Type 0 where
  pub low : number ≤ next
  pub high : next ≤ end
  pub free : (x : ℕ) → number ≤ x → x < next → IsFreeInode t x

-- the inode `next` isn't passed over: it is `end`, or the window doesn't hold it, or its bytes don't say that it is free
abbrev pub IsPastFreeInodes : Table → (end next : ℕ) → Type 0
IsPastFreeInodes t end next = next < end → HoldsInode t next → is_free_by (inode_bytes t next) ≡ false

-- free inodes can be passed over from a number on: an inode is before it
pub record CanSkipFreeInodes (w : Workspace) (number end : ℕ) : Type 0 where
  pub inodes : HasTableInodes w.windows.table
  pub some : 0 < number
  pub order : number ≤ end
  pub before : number ≤ vec_len w.kinds

-- the free inodes from a number on and before another one are passed over: all that come next, where the inode
-- before them is free or Partial. If there is one, the counts of the current inode are 0 then; else nothing has
-- changed
pub record SkipsFreeInodes (old new : Workspace) (number end next : ℕ) : Type 0 where
  pub ends : EndsFreeInodes old.windows.table number end next
  pub all : slice_index old.kinds.items (number - 1) ≡ 0 → IsPastFreeInodes old.windows.table end next
  pub none : next ≡ number → new ≡ old
  pub some : number < next → new ≡ record old { bad = 0; dup_offers = 0; kept = 0; tail = false }
