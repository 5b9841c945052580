-- The steps over the addresses of an inode, after fs(5). A Run has its first fragment, its length
-- and its logical block, or None where it is an indirect block. A Gap is an address of zero, a
-- hole: a block of data that isn't there, or an indirect block with all that would lie under it. A
-- Tail comes after the Run of an indirect block that has an address past the end of the file: one
-- Tail, however many such addresses the block has.
use Rattle.std.specs.Prelude.{ℕ, ◌==◌, zero, suc, Bool, not, ◌+◌, ◌-◌, ◌*◌, ◌%◌, ◌&&◌, ◌||◌, List, [], ◌∷◌, ◌++◌}
use Rattle.std.specs.{Prelude.{nat_lt, min, if◌then◌else◌, Some, None, slice_index}, List.{flat_map, range_with_len}}
use Rattle.std.specs.{List.list_any, Int.div_ceil}
use Rattle.ffs_volume.specs.declared.{constants.TheConstants.NDADDR, Layout.Layout, Step.{Step, TheVariants.Run}}
use Rattle.ffs_volume.specs.{declared.{Step.TheVariants.{Tail, Gap}, Inode.Inode}, Disk.Numbers.{u32_at, piece}}
use Rattle.ffs_volume.specs.{Disk.Areas.is_run_in_range, Blocks.Inodes.{addresses_needed, type_of, is_device}}
use Rattle.ffs_volume.specs.Blocks.Inodes.{is_short_symlink, logical_blocks_of, is_file_or_dir, class_of}

-- the bytes of the block at an address
abbrev pub block_bytes : (v : Layout) (image : List ℕ) (address : ℕ) → List ℕ
block_bytes v image address = piece (address * v.fsize) v.bsize image

-- the address at an index of an indirect block
abbrev pub address_in : (v : Layout) (block : List ℕ) (j : ℕ) → ℕ
address_in v block j = u32_at v.order (4 * j) block

-- the address at an index of the indirect block that is at an address
abbrev pub address_at : (v : Layout) (image : List ℕ) (address j : ℕ) → ℕ
address_at v image address j = address_in v (block_bytes v image address) j

-- how far a file reaches: the layout of its volume, the number of its logical blocks, and how many
-- fragments the last of them has where its address is direct
pub record FileBlocks : Type 0 where
  pub layout : Layout
  pub blocks : ℕ
  pub last_length : ℕ  -- a length in fragments

-- how many addresses of one indirect block lie before the end of the file, holes among them, of the
-- `words` that it has: it covers the logical blocks from `first` on, and `span` of them lie under
-- each address (`-` stops at 0)
abbrev pub indirect_addresses_needed : (words blocks first span : ℕ) → ℕ
indirect_addresses_needed words blocks first span = min words (div_ceil (blocks - first) span)

-- a Tail, where an address that isn't zero was found past the end of the file
abbrev pub tail_of : Bool → List Step
tail_of found = if found then Tail ∷ [] else []

-- an address of an indirect block from index `used` on isn't zero
abbrev pub any_nonzero_from : (v : Layout) (block : List ℕ) (used : ℕ) → Bool
any_nonzero_from v block used = list_any (λ j. not (address_in v block j == 0)) (range_with_len used (v.nindir - used))

-- the steps under `count` addresses of an indirect block, from index `next` on; `child` gives those
-- under one, by the address and the first logical block under it
abbrev pub steps_under : (v : Layout) (image : List ℕ) (child : ℕ → ℕ → List Step) (span address first next count : ℕ)
    → List Step
steps_under v image child span address first next count =
    flat_map (λ j. child (address_at v image address j) (first + j * span)) (range_with_len next count)

-- how many fragments a logical block of data has: `last_length` where it is the last and direct,
-- else those of a block
abbrev pub data_length : FileBlocks → ℕ → ℕ
data_length t block = if nat_lt block NDADDR && block + 1 == t.blocks then t.last_length else t.layout.frag

-- how many logical blocks lie under an address of a level of indirection: `words` to the power of
-- the level
abbrev pub span_of : (words level : ℕ) → ℕ
span_of words zero = 1
span_of words (suc zero) = words
span_of words (suc (suc level)) = words * span_of words (suc level)

-- the step at the address of a data block
abbrev pub data_step : (t : FileBlocks) (address block : ℕ) → Step
data_step t address block = if address == 0 then Gap else Run address (data_length t block) (Some block)

-- the steps at the address of an indirect block: a Gap, or its Run and, where that is in range, a
-- Tail if there is one, and then the steps under its addresses before the end of the file, in
-- order; `child` is as in `steps_under`
abbrev pub indirect_steps : (t : FileBlocks) (image : List ℕ) (child : ℕ → ℕ → List Step) (span address first : ℕ) →
    List Step
indirect_steps t image child span address first =
    if address == 0
    then Gap ∷ []
    else Run address t.layout.frag None ∷
    (if is_run_in_range t.layout address t.layout.frag
    then tail_of (any_nonzero_from t.layout (block_bytes t.layout image address)
    (indirect_addresses_needed t.layout.nindir t.blocks first span))
    ++ steps_under t.layout image child span address first 0
    (indirect_addresses_needed t.layout.nindir t.blocks first span)
    else [])

-- the steps at an address of a level of indirection, `first` being the first logical block under it
unfoldable pub steps_at : (t : FileBlocks) (image : List ℕ) (level address first : ℕ) → List Step
steps_at t image zero address first = data_step t address first ∷ []
steps_at t image (suc level) address first =
    indirect_steps t image (steps_at t image level) (span_of t.layout.nindir level) address first

-- the level of indirection of the address at index i: 0 for the direct ones (`-` stops at 0), then
-- 1, 2 and 3
abbrev pub indirection_of : ℕ → ℕ
indirection_of i = i - (NDADDR - 1)

-- the first logical block under the address at index i of an inode, where a block has room for
-- `words` addresses
abbrev pub first_block : (words i : ℕ) → ℕ
first_block words i =
    if nat_lt i (NDADDR + 1) then i
    else (if i == NDADDR + 1 then NDADDR + words else NDADDR + words + words * words)

-- the steps of `count` addresses of an inode, from index `next` on
abbrev pub steps_of_addresses : (t : FileBlocks) (image addresses : List ℕ) (next count : ℕ) → List Step
steps_of_addresses t image addresses next count =
    flat_map (λ i. steps_at t image (indirection_of i) (slice_index addresses i) (first_block t.layout.nindir i))
    (range_with_len next count)

-- the addresses of the inode are walked: it is a file or directory, but no device, and no symlink
-- with its text in place of the addresses
abbrev pub is_walked : Layout → Inode → Bool
is_walked v i = is_file_or_dir (class_of v i) && not (is_device (type_of i.mode) || is_short_symlink v i)

-- how many fragments the last logical block has, where it is direct
abbrev pub last_length_of : Layout → Inode → ℕ
last_length_of v i = if i.size % v.bsize == 0 then v.frag else div_ceil (i.size % v.bsize) v.fsize

-- the steps of an inode
unfoldable pub steps_of : Layout → Inode → List ℕ → List Step
steps_of v i image =
    let blocks = if is_walked v i then logical_blocks_of v i else 0 in
    steps_of_addresses (record { layout = v; blocks = blocks; last_length = last_length_of v i }) image i.addresses 0
    (addresses_needed v.nindir blocks)
