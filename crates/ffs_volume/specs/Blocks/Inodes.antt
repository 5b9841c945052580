-- An inode, and its class.
use Rattle.std.specs.Prelude.{ℕ, Bool, true, false, not, ◌+◌, ◌*◌, ◌/◌, ◌&&◌, ◌||◌, List, nat_lt, ◌==◌, if◌then◌else◌}
use Rattle.std.specs.{Prelude.{drop, map}, List.{list_any, range_with_len}, Int.div_ceil}
use Rattle.ffs_volume.specs.declared.constants.TheConstants.{NDADDR, DT_FIFO, DT_CHR, DT_DIR, DT_BLK, DT_REG, DT_LNK}
use Rattle.ffs_volume.specs.declared.{constants.TheConstants.{DT_SOCK, DINODE_SIZE}, Order.Order, Layout.Layout}
use Rattle.ffs_volume.specs.declared.{Inode.Inode, Class.{Class, TheVariants.{Free, Partial, Unknown, File, Dir}}}
use Rattle.ffs_volume.specs.Disk.{Numbers.{u16_at, i16_at, u32_at, i32_at, u64_at, piece}, Areas.inode_place}

-- an inode from its bytes, whose numbers are in this order of bytes
unfoldable pub inode_from_bytes : Order → List ℕ → Inode
inode_from_bytes order bytes = record {
  mode = u16_at order 0 bytes;
  nlink = i16_at order 2 bytes;
  size = u64_at order 8 bytes;
  mtime = i32_at order 24 bytes;
  addresses = map (λ j. u32_at order (40 + 4 * j) bytes) (range_with_len 0 15);
  blocks = u32_at order 104 bytes;
  uid = u32_at order 112 bytes;
}

-- the inode x of an image
unfoldable pub inode_of : (v : Layout) (image : List ℕ) (x : ℕ) → Inode
inode_of v image x = inode_from_bytes v.order (piece (inode_place v x) DINODE_SIZE image)

-- the type of a file, as a directory's entry has it: the four bits of the mode above the twelve of
-- its permissions
abbrev pub type_of : ℕ → ℕ
type_of mode = mode / 4096

-- a type that a file or a directory may have
abbrev pub is_known_type : ℕ → Bool
is_known_type kind =
    kind == DT_FIFO || (kind == DT_CHR || (kind == DT_DIR || (kind == DT_BLK
    || (kind == DT_REG || (kind == DT_LNK || kind == DT_SOCK)))))

-- the type is a character or a block device
abbrev pub is_device : ℕ → Bool
is_device kind = kind == DT_CHR || kind == DT_BLK

-- a symlink whose text is stored in place of the addresses
abbrev pub is_short_symlink : Layout → Inode → Bool
is_short_symlink v i = type_of i.mode == DT_LNK && nat_lt i.size v.maxsymlinklen

-- how many logical blocks the size of an inode needs
abbrev pub logical_blocks_of : Layout → Inode → ℕ
logical_blocks_of v i = div_ceil i.size v.bsize

-- how many of the fifteen addresses are needed to reach this many logical blocks, where an indirect
-- block has room for `words` addresses
abbrev pub addresses_needed : (words blocks : ℕ) → ℕ
addresses_needed words blocks =
    if nat_lt blocks (NDADDR + 1) then blocks
    else (if nat_lt (NDADDR + words) blocks
    then (if nat_lt (NDADDR + words + words * words) blocks then 15 else 14)
    else 13)

-- how many of its fifteen addresses, from the first on, an inode may set: one set after them makes
-- it Unknown. A short symlink has its text in place of addresses, 4 bytes in each. A device stores
-- its device number in the first address, so one logical block more is counted
abbrev pub addresses_allowed : Layout → Inode → ℕ
addresses_allowed v i =
    if is_short_symlink v i then div_ceil i.size 4
    else addresses_needed v.nindir
    (if is_device (type_of i.mode) then logical_blocks_of v i + 1 else logical_blocks_of v i)

-- some address isn't zero
abbrev pub any_nonzero : List ℕ → Bool
any_nonzero addresses = list_any (λ a. not (a == 0)) addresses

-- the size is more than fifteen addresses reach, or a directory's is 2^31 or more
abbrev pub is_too_large : Layout → Inode → Bool
is_too_large v i =
    nat_lt ((NDADDR + v.nindir + v.nindir * v.nindir + v.nindir * v.nindir * v.nindir) * v.bsize) i.size
    || (type_of i.mode == DT_DIR && nat_lt 2147483647 i.size)

-- the class of an inode (`Class` says what each is)
unfoldable pub class_of : Layout → Inode → Class
class_of v i =
    if type_of i.mode == 0
    then (if i.mode == 0 && (i.size == 0 && not (any_nonzero i.addresses)) then Free else Partial)
    else (if not (is_known_type (type_of i.mode))
    || (is_too_large v i || any_nonzero (drop (addresses_allowed v i) i.addresses))
    then Unknown
    else (if type_of i.mode == DT_DIR then Dir else File))

-- the class is File or Dir
abbrev pub is_file_or_dir : Class → Bool
is_file_or_dir File = true
is_file_or_dir Dir = true
is_file_or_dir _ = false

-- the class is Dir
abbrev pub is_directory : Class → Bool
is_directory Dir = true
is_directory _ = false

-- the class is Unknown
abbrev pub is_unknown : Class → Bool
is_unknown Unknown = true
is_unknown _ = false

-- the class is File, Dir or Unknown: the map of inodes in its group should have such an inode as used
abbrev pub is_allocated : Class → Bool
is_allocated File = true
is_allocated Dir = true
is_allocated Unknown = true
is_allocated _ = false

-- how many inodes a volume has
abbrev pub inodes_of : Layout → ℕ
inodes_of v = v.ncg * v.ipg
