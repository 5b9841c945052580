-- What the window on the inode table holds.
use Rattle.std.specs.Prelude.{◌≡◌, ◌*◌, ◌+◌, ◌-◌, ◌/◌, ◌%◌, ◌<◌, ◌≤◌, ℕ, Bool, ◌&&◌, nat_le, nat_lt, List, Option}
use Rattle.std.specs.{Prelude.{Result, IfOk, IsOk, OnErr, OnOk, if◌then◌else◌, vec_len}, List.slice_range}
use Rattle.ffs_image.specs.{Device.{Device, ForContents}, Reads.{ReadAfter, ReadsAtMostOnce}, declared.image.ImageFault.ImageFault}
use Rattle.ffs_memory.specs.declared.fixed_list.FixedList.{FixedList}
use Rattle.ffs_volume.specs.declared.{constants.TheConstants.{DEV_BSIZE, DINODE_SIZE}, Inode.Inode, Layout.Layout}
use Rattle.ffs_volume.specs.{Blocks.Inodes.{inode_of, inodes_of}, Disk.{Areas.{cgstart, inode_place}, Numbers.piece}}
use Rattle.ffs_volume.specs.Laws.Geometry.{IsAcceptedLayout}
use Rattle.ffs_walk.specs.Windows.{FailsAt, ImageWith, WindowHolds, held_bytes}
use Rattle.ffs_workspace.specs.declared.table.Table.{Table}
use Rattle.ffs_volume.specs.Disk.Areas.{FitsIn}

-- a block of the inode table is whole pieces of n inodes
pub record DividesBlock (v : Layout) (n : ℕ) : Type 0 where
  pub some : 0 < n
  pub whole : v.inopb % n ≡ 0

-- so is each block of each volume
abbrev pub DividesBlocks : ℕ → Type 0
DividesBlocks n = (v : Layout) → IsAcceptedLayout v → DividesBlock v n

-- the inode table is whole pieces of n inodes, and one of them has the inode x
pub record HasPiece (v : Layout) (n x : ℕ) : Type 0 where
  pub number : x < v.ncg * v.ipg
  pub count : DividesBlock v n

-- the byte where the piece of n inodes of the inode table begins that has the inode x
abbrev pub table_place : Layout → (n x : ℕ) → ℕ
table_place v n x = (cgstart v (x / v.ipg) + v.iblkno) * v.fsize + x % v.ipg / n * (n * DINODE_SIZE)

-- the block of the inode table that has the inode x begins in this sector
abbrev pub IsSectorOfInode : Layout → (x sector : ℕ) → Type 0
IsSectorOfInode v x sector = sector ≡ table_place v v.inopb x / DEV_BSIZE

-- a read of the inode x failed in this sector, of its block, while what was said stayed as it was
abbrev pub FailsBeforeLine : {S : Type 0} → Layout → (x : ℕ) → (said said' : S) → (sector : ℕ) → Type 0
FailsBeforeLine v x said said' sector = IsSectorOfInode v x sector × (said' ≡ said)

-- a block of the inode table begins in this sector
abbrev pub IsTableSector : Layout → (sector : ℕ) → Type 0
IsTableSector v sector = (x : ℕ) × (x < inodes_of v) × IsSectorOfInode v x sector

-- how many inodes of 128 bytes a sector of 512 bytes has, and how many eight sectors have
abbrev pub sector_inodes : ℕ
sector_inodes = 4

abbrev pub piece_inodes : ℕ
piece_inodes = 32

-- the sector of the inode x begins where the inodes that are held end: it is one of the four after them
unfoldable pub follows : Table → ℕ → Bool
follows t x = nat_le (t.first + t.count) x && nat_lt x (t.first + t.count + sector_inodes)

-- how many inodes are read for the inode x, where it isn't held: a sector, or eight that follow those held
unfoldable pub count_to_read : Table → ℕ → ℕ
count_to_read t x = if follows t x then piece_inodes else sector_inodes

-- the inode x is one of those that are held
abbrev pub HoldsInode : Table → ℕ → Type 0
HoldsInode t x = (t.first ≤ x) × (x < t.first + t.count)

-- the inode x is in the window, in its place among those that are held
pub record IsInPlace (v : Layout) (t : Table) (x : ℕ) : Type 0 where
  pub place : t.window.place + DINODE_SIZE * (x - t.first) ≡ inode_place v x
  pub inside : DINODE_SIZE * (x - t.first) + DINODE_SIZE ≤ t.window.length

-- just the piece of n inodes that has the inode x is held, and its bytes are in the window
pub record HoldsPiece (v : Layout) (n x : ℕ) (t : Table) : Type 0 where
  pub first : t.first ≡ x - x % v.ipg % n
  pub count : t.count ≡ n
  pub place : t.window.place ≡ table_place v n x
  pub length : t.window.length ≡ n * DINODE_SIZE

-- the window has room for a block, and each inode that it has is in its place
pub record IsTableOf (v : Layout) (t : Table) : Type 0 where
  pub room : vec_len t.window.buffer ≡ v.bsize
  pub inodes : (x : ℕ) → HoldsInode t x → IsInPlace v t x

-- inodes can be read: the image has all of the volume, and the window holds what the image gives
pub record CanReadInodes (v : Layout) (d : Device) (t : Table) : Type 0 where
  pub volume : FitsIn v d.size
  pub made : IsTableOf v t
  pub holds : WindowHolds d.contents t.window

-- the inode x of the volume can be read
pub record CanReadInode (v : Layout) (d : Device) (x : ℕ) (t : Table) : Type 0 where
  pub number : x < v.ncg * v.ipg
  pub ready : CanReadInodes v d t

-- the piece of n inodes that has the inode x can be read
pub record CanReadPiece (v : Layout) (d : Device) (n x : ℕ) (t : Table) : Type 0 where
  pub piece : HasPiece v n x
  pub ready : CanReadInodes v d t

-- what is left of the table holds what the image gives
pub record TableHolds (v : Layout) (contents : Option (List ℕ)) (t : Table) : Type 0 where
  pub made : IsTableOf v t
  pub holds : WindowHolds contents t.window

-- what a call leaves that may read from the table: the image as after a read, and a table that
-- holds what it gives
pub record TableAfter {T : Type 0} (v : Layout) (d d' : Device) (t : Table) (result : Result T ImageFault) : Type 0
  where
    pub kept : TableHolds v d'.contents t
    pub read : ReadAfter d d' result

-- the piece of n inodes of the table that has the inode x is read, by one read at most; a table whose read failed
-- begins where it did
pub record ReadsPiece {T : Type 0} (v : Layout) (n x : ℕ) (old new : ImageWith Table)
    (result : Result T ImageFault) : Type 0 where
  pub has : OnOk result (HoldsInode new.cache x)
  pub piece : OnOk result (HoldsPiece v n x new.cache)
  pub leaves : TableAfter v old.image new.image new.cache result
  pub counted : new.reads ≤ old.reads + 1
  pub sector : FailsAt (table_place v n x) result
  pub begins : OnErr result (new.cache.first ≡ old.cache.first)

-- the inode x is read: it is that of the image's bytes, where the image gives them, and the table holds
-- what the image gives
pub record ReadsInode (v : Layout) (d d' : Device) (x : ℕ) (t : Table) (result : Result Inode ImageFault) : Type 0 where
  pub inode : IfOk result (λ i. ForContents d.contents (λ bytes. i ≡ inode_of v bytes x))
  pub kept : TableHolds v d'.contents t
  pub read : ReadAfter d d' result

-- the bytes of the inode x are in the window, from this place on
pub record IsHeldAt (v : Layout) (contents : Option (List ℕ)) (t : Table) (x at : ℕ) : Type 0 where
  pub inside : at + DINODE_SIZE ≤ t.window.length
  pub bytes : ForContents contents
      (λ b. slice_range (held_bytes t.window) at (at + DINODE_SIZE) ≡ piece (inode_place v x) DINODE_SIZE b)

-- the inode x was asked of a table: it is as it was, where it held the inode; else it holds just the
-- piece of n inodes that has it. `unfoldable`, so that callers' proofs look inside only where they ask it
unfoldable pub TakesPiece : {T : Type 0} → Layout → (n x : ℕ) → (old new : Table) → Result T ImageFault → Type 0
TakesPiece v n x old new result = (HoldsInode old x → new ≡ old) ×
    ((HoldsInode old x → ⊥) → OnOk result (HoldsPiece v n x new))

-- no read fails where the table held the inode x; else one that fails is of the piece of n inodes that has it.
-- `unfoldable` as `TakesPiece` is
unfoldable pub FailsInPiece : {T : Type 0} → Layout → (n x : ℕ) → (old : Table) → Result T ImageFault → Type 0
FailsInPiece v n x old result = (HoldsInode old x → IsOk result) × FailsAt (table_place v n x) result

-- an image was asked for the piece of n inodes that has the inode x: once at most, not where the table held the
-- inode, and for nothing else. `unfoldable` as `TakesPiece` is
unfoldable pub AsksForPiece : {I : Type 0} → (was_read : I → ℕ → ℕ → I → Type 0) → Layout → (n x : ℕ) → Table →
    (old new : I) → Type 0
AsksForPiece was_read v n x t old new = (HoldsInode t x → new ≡ old)
    × ReadsAtMostOnce was_read (table_place v n x) (n * DINODE_SIZE) old new

-- the bytes of the inode x are in the window from the place on that is returned. They are read at most
-- once, with their block, and not where the table held the inode
pub record LoadsInode (v : Layout) (x : ℕ) (old new : ImageWith Table) (result : Result ℕ ImageFault) : Type 0 where
  pub there : IfOk result (IsHeldAt v old.image.contents new.cache x)
  pub leaves : TableAfter v old.image new.image new.cache result
  pub counted : new.reads ≤ old.reads + 1
  pub again : HoldsInode old.cache x → new.reads ≤ old.reads
  pub block : TakesPiece v v.inopb x old.cache new.cache result
  pub fault : FailsInPiece v v.inopb x old.cache result
  pub begins : OnErr result (new.cache.first ≡ old.cache.first)

-- the inode x is read, with its piece of n inodes: once at most, and not where the table held it
pub record ReadsInodeOnce (v : Layout) (n x : ℕ) (old new : ImageWith Table)
    (result : Result Inode ImageFault) : Type 0 where
  pub reads : ReadsInode v old.image new.image x new.cache result
  pub counted : new.reads ≤ old.reads + 1
  pub again : HoldsInode old.cache x → new.reads ≤ old.reads
  pub piece : TakesPiece v n x old.cache new.cache result
  pub fault : FailsInPiece v n x old.cache result
  pub begins : OnErr result (new.cache.first ≡ old.cache.first)

-- a table over a list that holds no inode, and so what any image of any layout gives
pub record IsEmptyTable (list : FixedList ℕ) (t : Table) : Type 0 where
  pub buffer : t.window.buffer ≡ list
  pub empty : (t.first ≡ 0) × (t.count ≡ 0)
  pub holds : (contents : Option (List ℕ)) → WindowHolds contents t.window
