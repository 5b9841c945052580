-- Which superblocks are accepted, and the first fault of one that isn't: no bytes, no magic, a
-- fault of the layout in the order of `layout_fault`, or a copy that disagrees. `outcome` is made of
-- the conditions before it. After it are the sectors at which a read of a superblock may fail.
use Rattle.std.specs.Prelude.{ℕ, ◌+◌, ◌-◌, ◌*◌, ◌/◌, ◌%◌, ◌^◌, min, Bool, true, false, ◌&&◌, not, nat_lt, nat_le, ◌==◌}
use Rattle.std.specs.Prelude.{if◌then◌else◌, List, [], ◌∷◌, length, Option, Some, None, Result, Ok, Err, ◌≡◌, ◌⊎◌}
use Rattle.std.specs.{Prelude.IsSomeAnd, List.{list_all, list_any}, Int.div_ceil}
use Rattle.ffs_volume.specs.declared.constants.TheConstants.{CG_HEADER, CSUM_SIZE, DEV_BSIZE, DINODE_SIZE, INODE_FORMAT}
use Rattle.ffs_volume.specs.declared.{constants.TheConstants.{SBSIZE, SUPERBLOCK_BYTES, SUPERBLOCK_SECTOR}, Order.Order}
use Rattle.ffs_volume.specs.declared.SuperFault.{SuperFault, TheVariants.{CannotRead, Magic, InodeFormat, Ncg, Cpg}}
use Rattle.ffs_volume.specs.declared.{SuperFault.TheVariants.{Ncyl, TooLarge, Shape, Short, Disagree}, Layout.Layout}
use Rattle.ffs_volume.specs.Disk.{Numbers.{u32_at, piece, is_nonnegative, all_below}, Superblock.Superblock}
use Rattle.ffs_volume.specs.{Disk.Superblock.{layout_of, superblock_of, order_of}, declared.TheConstants.LAYOUT_PLACES}
use Rattle.ffs_volume.specs.Disk.Areas.{cgoffset_of, cgbase, cgsblock, cgdmin}

-- x is one of the numbers
abbrev pub is_among : (xs : List ℕ) (x : ℕ) → Bool
is_among xs x = list_any (λ y. x == y) xs

-- a valid size of a block, in bytes
unfoldable pub is_block_size : ℕ → Bool
is_block_size n = is_among (4096 ∷ 8192 ∷ 16384 ∷ 32768 ∷ 65536 ∷ []) n

-- a valid size of a fragment, in bytes
unfoldable pub is_fragment_size : ℕ → Bool
is_fragment_size n = is_among (512 ∷ 1024 ∷ 2048 ∷ 4096 ∷ 8192 ∷ 16384 ∷ 32768 ∷ 65536 ∷ []) n

-- a valid number of fragments in a block
unfoldable pub is_fragment_count : ℕ → Bool
is_fragment_count n = is_among (1 ∷ 2 ∷ 4 ∷ 8 ∷ []) n

-- the sizes of blocks, fragments and groups are valid and fit each other; an address has 4 bytes
unfoldable pub has_valid_sizes : Layout → Bool
has_valid_sizes v =
    is_block_size v.bsize && is_fragment_size v.fsize && is_fragment_count v.frag
    && (v.bsize == v.frag * v.fsize)
    && (v.nindir == v.bsize / 4)
    && (v.inopb == v.bsize / DINODE_SIZE)
    && (nat_lt 0 v.ipg && (v.ipg % v.inopb == 0))
    && (nat_lt 0 v.fpg && (v.fpg % v.frag == 0))

-- In the order of the lines: there is a data fragment; the text of a short symlink fits the 60
-- bytes of the fifteen addresses; the tables of rotational positions are in the dynamic format (1);
-- a superblock has at least the bytes that are read; the volume ends in its last group; fragments
-- and inodes are fewer than 2^31
unfoldable pub has_valid_numbers : Layout → Bool
has_valid_numbers v =
    nat_le 1 v.dsize
    && nat_le v.maxsymlinklen 60
    && (v.postblformat == 1)
    && nat_le SUPERBLOCK_BYTES v.sbsize
    && (nat_lt ((v.ncg - 1) * v.fpg) v.size && nat_le v.size (v.ncg * v.fpg))
    && (nat_lt v.size (2 ^ 31) && nat_lt (v.ncg * v.ipg) (2 ^ 31))

-- the parts of a group are one after the other, none at its start; a group block has room for the
-- bytes before its maps, and fits a block
unfoldable pub has_valid_parts : Layout → Bool
has_valid_parts v =
    nat_lt 0 v.sblkno
    && nat_le (v.sblkno + div_ceil v.sbsize v.fsize) v.cblkno
    && nat_le (v.cblkno + div_ceil v.cgsize v.fsize) v.iblkno
    && nat_le (v.iblkno + v.ipg * DINODE_SIZE / v.fsize) v.dblkno
    && (nat_le CG_HEADER v.cgsize && nat_le v.cgsize v.bsize)

-- the parts of group c begin at its base or above it, and its metadata ends within the group and
-- the volume
unfoldable pub has_valid_group : Layout → ℕ → Bool
has_valid_group v c = is_nonnegative (cgoffset_of v c) && nat_le (cgdmin v c) (min (cgbase v (c + 1)) v.size)

-- the summary area begins at group 0's data, has a record for each group, and ends within group 0
-- and the volume
unfoldable pub has_valid_summary_area : Layout → Bool
has_valid_summary_area v =
    (v.csaddr == cgdmin v 0)
    && nat_le (CSUM_SIZE * v.ncg) v.cssize
    && nat_le (v.csaddr + div_ceil v.cssize v.fsize) (min (cgbase v 1) v.size)

-- all these conditions: else the fault is Shape
unfoldable pub is_valid_layout : Layout → Bool
is_valid_layout v = has_valid_sizes v && has_valid_numbers v && has_valid_parts v && has_valid_summary_area v
    && all_below v.ncg (has_valid_group v)

-- the cylinders end in the last group
unfoldable pub has_valid_cylinders : Layout → Bool
has_valid_cylinders v = nat_le v.ncyl (v.ncg * v.cpg) && nat_lt ((v.ncg - 1) * v.cpg) v.ncyl

-- the first fault of a layout, in an image of this size in bytes
unfoldable pub layout_fault : Layout → ℕ → Option SuperFault
layout_fault v image_size =
    if not (v.inodefmt == INODE_FORMAT) then Some InodeFormat
    else (if nat_lt v.ncg 1 then Some Ncg
    else (if nat_lt v.cpg 1 then Some Cpg
    else (if not (has_valid_cylinders v) then Some Ncyl
    else (if nat_lt SBSIZE v.sbsize then Some TooLarge
    else (if not (is_valid_layout v) then Some Shape
    else (if nat_lt image_size (v.size * v.fsize) then Some Short
    else None))))))

-- two superblocks agree in the numbers at LAYOUT_PLACES: the magic number, and all of a layout but
-- maxsymlinklen
unfoldable pub agree : (order : Order) (bytes copy : List ℕ) → Bool
agree order bytes copy = list_all (λ place. u32_at order place bytes == u32_at order place copy) LAYOUT_PLACES

-- the sector of the superblock in effect: the one asked for, or that of the primary one
abbrev pub super_sector : Option ℕ → ℕ
super_sector None = SUPERBLOCK_SECTOR
super_sector (Some sector) = sector

-- the byte where the copy of the superblock in the last group begins
abbrev pub copy_place : Layout → ℕ
copy_place v = cgsblock v (v.ncg - 1) * v.fsize

-- the bytes of the superblock in effect
abbrev pub super_bytes : (image : List ℕ) (sector : Option ℕ) → List ℕ
super_bytes image sector = piece (super_sector sector * DEV_BSIZE) SUPERBLOCK_BYTES image

-- with no sector asked for, the last copy must agree; with one, no copy is compared
unfoldable pub copy_agrees : (image : List ℕ) → Option ℕ → (order : Order) (bytes : List ℕ) → Bool
copy_agrees image None order bytes =
    agree order bytes (piece (copy_place (layout_of order bytes)) SUPERBLOCK_BYTES image)
copy_agrees image (Some sector) order bytes = true

-- the verdict on a superblock: by the first fault of its layout, if any, and by whether the last
-- copy agrees
unfoldable pub super_verdict : Option SuperFault → Bool → Superblock → Result Superblock SuperFault
super_verdict (Some fault) agrees super = Err fault
super_verdict None true super = Ok super
super_verdict None false super = Err Disagree

-- the superblock, or its first fault, where its numbers are in this order of bytes
unfoldable pub outcome_in : (image : List ℕ) (sector : Option ℕ) (order : Order) (bytes : List ℕ) →
    Result Superblock SuperFault
outcome_in image sector order bytes =
    super_verdict (layout_fault (layout_of order bytes) (length image)) (copy_agrees image sector order bytes)
    (superblock_of order bytes)

-- the superblock, or its first fault, by the order of bytes in which the magic number is right:
-- Magic where it is in neither
unfoldable pub outcome_of : (image : List ℕ) (sector : Option ℕ) (bytes : List ℕ) → Option Order →
    Result Superblock SuperFault
outcome_of image sector bytes None = Err Magic
outcome_of image sector bytes (Some order) = outcome_in image sector order bytes

-- the superblock of an image, or its first fault
unfoldable pub outcome : (image : List ℕ) (sector : Option ℕ) → Result Superblock SuperFault
outcome image sector =
    if nat_lt (length image) (super_sector sector * DEV_BSIZE + SUPERBLOCK_BYTES)
    then Err (CannotRead (super_sector sector))
    else outcome_of image sector (super_bytes image sector) (order_of (super_bytes image sector))

-- a read of the last copy fails at this sector, where the superblock has these bytes, and its layout no
-- fault in an image of this size
abbrev pub IsCopySector : List ℕ → (image_size failed_sector : ℕ) → Type 0
IsCopySector bytes image_size failed_sector =
    IsSomeAnd (order_of bytes) (λ order. (layout_fault (layout_of order bytes) image_size ≡ None)
    × (failed_sector ≡ copy_place (layout_of order bytes) / DEV_BSIZE))

-- a failed read of the superblock may have this sector: the superblock's, and the last copy's where
-- no sector was asked for
abbrev pub IsSuperSector : List ℕ → Option ℕ → ℕ → Type 0
IsSuperSector image sector failed_sector =
    (failed_sector ≡ super_sector sector)
    ⊎ ((sector ≡ None) × IsCopySector (super_bytes image sector) (length image) failed_sector)
