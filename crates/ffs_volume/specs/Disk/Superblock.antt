-- The superblock, after fs(5): its first 1,376 bytes, which end with the magic number. The numbers
-- below are the offsets of its fields, in bytes.
use Rattle.std.specs.Prelude.{ℕ, ◌==◌, if◌then◌else◌, List, [], ◌∷◌, ℤ, Option, Some, None}
use Rattle.ffs_volume.specs.declared.{constants.TheConstants.{FS_MAGIC, MAXMNTLEN}, Order.{Order, TheVariants.Little}}
use Rattle.ffs_volume.specs.{declared.{Order.TheVariants.Big, Layout.Layout}, Disk.Numbers.{u32_at, i32_at, count_at}}
use Rattle.ffs_volume.specs.Disk.Numbers.{piece}

-- a superblock. optim says whether files are laid out for time (0) or for space (1), minfree is the
-- percentage that is kept free, and mount is the last mount point. cstotal has the four totals of
-- the volume, in the order of a `struct csum`: directories, free blocks, free inodes, and free
-- fragments of blocks that aren't all free
pub record Superblock : Type 0 where
  pub layout : Layout
  pub optim : ℤ
  pub minfree : ℤ
  pub cstotal : List ℤ
  pub mount : List ℕ

-- The layout: the numbers that say where the parts of a volume lie, and those that must be right for
-- it. A negative number is read as 0, which is refused for each field that is read so. cgoffset may be
-- negative, and cgmask is a mask of bits. maxsymlinklen is read unsigned: 0 is valid for it, and says
-- that no symbolic link is short; a negative number is refused as too large. Which format directories
-- have is decided by inodefmt alone, not by maxsymlinklen. `superblock_of` reads a whole `Superblock`.
unfoldable pub layout_of : Order → List ℕ → Layout
layout_of order bytes = record {
  order = order;
  sblkno = count_at order 8 bytes;
  cblkno = count_at order 12 bytes;
  iblkno = count_at order 16 bytes;
  dblkno = count_at order 20 bytes;
  cgoffset = i32_at order 24 bytes;
  cgmask = u32_at order 28 bytes;
  size = count_at order 36 bytes;
  dsize = count_at order 40 bytes;
  ncg = count_at order 44 bytes;
  bsize = count_at order 48 bytes;
  fsize = count_at order 52 bytes;
  frag = count_at order 56 bytes;
  sbsize = count_at order 104 bytes;
  nindir = count_at order 116 bytes;
  inopb = count_at order 120 bytes;
  csaddr = count_at order 152 bytes;
  cssize = count_at order 156 bytes;
  cgsize = count_at order 160 bytes;
  ncyl = count_at order 176 bytes;
  cpg = count_at order 180 bytes;
  ipg = count_at order 184 bytes;
  fpg = count_at order 188 bytes;
  maxsymlinklen = u32_at order 1320 bytes;
  inodefmt = count_at order 1324 bytes;
  postblformat = count_at order 1356 bytes;
}

-- the superblock in these bytes, whose numbers are in this order of bytes
unfoldable pub superblock_of : Order → List ℕ → Superblock
superblock_of order bytes = record {
  layout = layout_of order bytes;
  optim = i32_at order 128 bytes;
  minfree = i32_at order 60 bytes;
  cstotal = i32_at order 192 bytes ∷ i32_at order 196 bytes ∷ i32_at order 200 bytes ∷ i32_at order 204 bytes ∷ [];
  mount = piece 212 MAXMNTLEN bytes;
}

-- the order of bytes in which the magic number is right, if there is one
unfoldable pub order_of : List ℕ → Option Order
order_of bytes =
    if u32_at Little 1372 bytes == FS_MAGIC then Some Little
    else (if u32_at Big 1372 bytes == FS_MAGIC then Some Big else None)
