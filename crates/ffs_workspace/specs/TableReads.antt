-- How often the inode table is read for lines that show an inode: once for each of its blocks that has such an inode.
use Rattle.std.specs.Prelude.{◌≡◌, ◌+◌, ◌-◌, ◌%◌, ◌<◌, ◌≤◌, ◌==◌, ℕ, zero, suc, Bool, ◌&&◌, not, nat_lt, cond, List, []}
use Rattle.std.specs.Prelude.{length, Result, OnOk}
use Rattle.ffs_volume.specs.{declared.Layout.Layout, Blocks.Inodes.inodes_of, Disk.Search.some_below}
use Rattle.ffs_volume.specs.Messages.Kinds.{TreeMessage}
use Rattle.ffs_walk.specs.Windows.{ImageWith}
use Rattle.ffs_workspace.specs.{declared.table.Table.Table, Tables.HoldsInode}

-- the first inode of the block of the inode table that has the inode x
abbrev pub block_start : Layout → (x : ℕ) → ℕ
block_start v x = x - x % v.ipg % v.inopb

-- something is reported of the inode x
abbrev pub has_line : (lines : ℕ → List TreeMessage) → (x : ℕ) → Bool
has_line lines x = nat_lt 0 (length (lines x))

-- the inode x has a line, and no lesser one of its block has
abbrev pub is_first_of_block : Layout → (lines : ℕ → List TreeMessage) → (x : ℕ) → Bool
is_first_of_block v lines x =
    has_line lines x && not (some_below (λ y. has_line lines y && (block_start v y == block_start v x)) x)

-- how many blocks of the inode table have an inode below n with a line
unfoldable pub blocks_below : Layout → (lines : ℕ → List TreeMessage) → (n : ℕ) → ℕ
blocks_below v lines zero = 0
blocks_below v lines (suc n) = cond (is_first_of_block v lines n) 1 0 + blocks_below v lines n

-- how many blocks of the inode table have an inode with a line
abbrev pub blocks_with_lines : Layout → (lines : ℕ → List TreeMessage) → ℕ
blocks_with_lines v lines = blocks_below v lines (inodes_of v)

-- the table holds whole blocks
abbrev pub HoldsWholeBlocks : Layout → Table → Type 0
HoldsWholeBlocks v t = (x y : ℕ) → HoldsInode t x → block_start v y ≡ block_start v x → HoldsInode t y

-- an image and its table are read no more, and the table is as it was
pub record StaysUnread (old new : ImageWith Table) : Type 0 where
  pub reads : new.reads ≤ old.reads
  pub table : new.cache ≡ old.cache

-- the inode x, which has these lines, is looked at: nothing is read where it has none or the table holds it, else
-- one block, which is held then
pub record ReadsForLines {T E : Type 0} (v : Layout) (x : ℕ) (lines : List TreeMessage) (old new : ImageWith Table)
    (result : Result T E) : Type 0 where
  pub none : lines ≡ [] → StaysUnread old new
  pub again : HoldsInode old.cache x → StaysUnread old new
  pub once : new.reads ≤ old.reads + 1
  pub block : 0 < length lines → HoldsWholeBlocks v old.cache →
      OnOk result (HoldsWholeBlocks v new.cache × HoldsInode new.cache x)
