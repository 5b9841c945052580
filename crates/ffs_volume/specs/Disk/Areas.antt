-- Where the parts of a volume lie, in fragments and in bytes: fs(5).
use Rattle.std.specs.Prelude.{ℕ, ◌+◌, ◌-◌, ◌*◌, ◌/◌, ◌%◌, ◌≤◌, Bool, ◌&&◌, ◌||◌, not, nat_lt, nat_le, ◌==◌, ℤ, pos, ◌*ℤ◌}
use Rattle.std.specs.{Prelude.bit_and, Int.div_ceil}
use Rattle.ffs_volume.specs.{declared.constants.TheConstants.{CSUM_SIZE, DINODE_SIZE}, Disk.Numbers.zero_if_negative}
use Rattle.ffs_volume.specs.{Disk.{Numbers.all_below, Search.some_below}, declared.Layout.Layout}

-- a volume of this layout fits in so many bytes
abbrev pub FitsIn : Layout → ℕ → Type 0
FitsIn v bytes = v.size * v.fsize ≤ bytes

-- how far the parts of group c are moved from its base: cgoffset * (c & ~cgmask), with the
-- complement in 32 bits
unfoldable pub cgoffset_of : Layout → ℕ → ℤ
cgoffset_of v c = v.cgoffset *ℤ pos (bit_and c (4294967295 - v.cgmask))

-- the first fragment of group c
unfoldable pub cgbase : Layout → ℕ → ℕ
cgbase v c = v.fpg * c

-- the fragment from which the parts of group c are counted. A negative shift counts as 0, and
-- `has_valid_group`, in `Outcome`, refuses it
unfoldable pub cgstart : Layout → ℕ → ℕ
cgstart v c = cgbase v c + zero_if_negative (cgoffset_of v c)

-- where the copy of the superblock in group c begins
abbrev pub cgsblock : Layout → ℕ → ℕ
cgsblock v c = cgstart v c + v.sblkno

-- the first fragment for data after the inodes of group c. The fragments from the group's base to
-- `cgsblock` hold data too, except in group 0: there they are the boot area, with the boot block
-- and the primary superblock
abbrev pub cgdmin : Layout → ℕ → ℕ
cgdmin v c = cgstart v c + v.dblkno

-- the byte where the group block (`struct cg`) of group c begins
abbrev pub group_place : Layout → ℕ → ℕ
group_place v c = (cgstart v c + v.cblkno) * v.fsize

-- the byte where the record of group c begins in the summary area, which has a copy of the counts
-- of each group
abbrev pub summary_place : Layout → ℕ → ℕ
summary_place v c = v.csaddr * v.fsize + CSUM_SIZE * c

-- the byte where the inode x begins
abbrev pub inode_place : Layout → ℕ → ℕ
inode_place v x = (cgstart v (x / v.ipg) + v.iblkno) * v.fsize + DINODE_SIZE * (x % v.ipg)

-- f lies in the part of some group that is set aside for its copy of the superblock, its group
-- block and its inodes
unfoldable pub is_group_metadata : Layout → ℕ → Bool
is_group_metadata v f = some_below (λ c. nat_le (cgsblock v c) f && nat_lt f (cgdmin v c)) v.ncg

-- f is in range: below the volume's size and in no group's metadata. The boot area and the summary
-- area are in range, but reserved
unfoldable pub is_fragment_in_range : Layout → ℕ → Bool
is_fragment_in_range v f = nat_lt f v.size && not (is_group_metadata v f)

-- `len` fragments from `start` on are all in range, and in one group. They need not begin where a
-- block does
unfoldable pub is_run_in_range : (v : Layout) (start len : ℕ) → Bool
is_run_in_range v start len =
    all_below len (λ k. is_fragment_in_range v (start + k) && ((start + k) / v.fpg == start / v.fpg))

-- no file may have f: it is before the data of group 0, in the summary area, or metadata of a group
unfoldable pub is_reserved : Layout → ℕ → Bool
is_reserved v f =
    nat_lt f (cgdmin v 0)
    || (nat_le v.csaddr f && nat_lt f (v.csaddr + div_ceil v.cssize v.fsize))
    || is_group_metadata v f
