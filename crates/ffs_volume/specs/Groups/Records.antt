-- What the records of cylinder groups should be. All is counted by two functions: `free` says which
-- fragments are below the size and not used, and `class` gives the class of an inode from 2 on. The
-- numbers 4, 12, 20, 24, 52, 92 and 96 are offsets in a group block, in bytes: fs(5).
use Rattle.std.specs.Prelude.{ℕ, Bool, true, false, ◌+◌, ◌-◌, ◌*◌, ◌/◌, ◌%◌, ◌^◌, min, ◌&&◌, ◌||◌, not, List, [], ◌∷◌}
use Rattle.std.specs.Prelude.{◌++◌, ◌==◌, nat_lt, nat_le, if◌then◌else◌, map, count_by, slice_index, ℤ, pos}
use Rattle.std.specs.{List.{list_all, range_with_len, sum_by, slice_index_or}, Int.div_ceil}
use Rattle.ffs_volume.specs.declared.{constants.TheConstants.{CG_MAGIC, CSUM_SIZE}, Layout.Layout, Class.Class}
use Rattle.ffs_volume.specs.Disk.{Numbers.{u32_at, piece, all_below, equals_natural}, Areas.{cgbase, group_place}}
use Rattle.ffs_volume.specs.{Disk.Areas.summary_place, Blocks.Inodes.{is_directory, is_allocated}}

-- the inode is used: 0 and 1, which are no file's, and each that is allocated
abbrev pub is_used_inode : (ℕ → Class) → ℕ → Bool
is_used_inode class x = nat_lt x 2 || is_allocated (class x)

-- the inode is a directory
abbrev pub is_dir_inode : (ℕ → Class) → ℕ → Bool
is_dir_inode class x = nat_le 2 x && is_directory (class x)

-- how many fragments a group has
abbrev pub group_size : Layout → ℕ → ℕ
group_size v c = min (cgbase v (c + 1)) v.size - cgbase v c

-- the numbers of the blocks of a group, counted from its base
abbrev pub block_numbers : Layout → List ℕ
block_numbers v = range_with_len 0 (v.fpg / v.frag)

-- which fragments of block b of group c are free
abbrev pub block_bits : (v : Layout) (free : ℕ → Bool) (c b : ℕ) → List Bool
block_bits v free c b = map free (range_with_len (cgbase v c + b * v.frag) v.frag)

-- all fragments of a block are free
abbrev pub is_free_block : List Bool → Bool
is_free_block bits = list_all (λ b. b) bits

-- the length of a stretch of n free fragments; none where n is 0
abbrev pub stretch_of : ℕ → List ℕ
stretch_of n = if n == 0 then [] else n ∷ []

-- the lengths of the stretches of free fragments in order, each as long as it can be; just before
-- the first fragment there are n free ones
abbrev pub free_stretches : (n : ℕ) (bits : List Bool) → List ℕ
free_stretches n [] = stretch_of n
free_stretches n (true ∷ bits) = free_stretches (n + 1) bits
free_stretches n (false ∷ bits) = stretch_of n ++ free_stretches 0 bits

-- the counts of a group (struct csum): directories, free blocks, free inodes, and loose fragments,
-- which are the free ones of blocks that aren't all free
pub record GroupCounts : Type 0 where
  pub dirs : ℕ
  pub blocks : ℕ
  pub inodes : ℕ
  pub fragments : ℕ

-- the inodes of a group
abbrev pub group_inodes : Layout → ℕ → List ℕ
group_inodes v c = range_with_len (c * v.ipg) v.ipg

-- the right counts of group c
unfoldable pub right_group_counts : Layout → (ℕ → Bool) → (ℕ → Class) → ℕ → GroupCounts
right_group_counts v free class c = record {
  dirs = count_by (is_dir_inode class) (group_inodes v c);
  blocks = count_by (λ b. is_free_block (block_bits v free c b)) (block_numbers v);
  inodes = count_by (λ x. not (is_used_inode class x)) (group_inodes v c);
  fragments =
      sum_by (λ b. if is_free_block (block_bits v free c b) then 0 else count_by (λ f. f) (block_bits v free c b))
      (block_numbers v);
}

-- the right frsum[k]: how many stretches of exactly k free fragments there are in the blocks that
-- aren't all free
unfoldable pub right_frsum : (v : Layout) (free : ℕ → Bool) (c k : ℕ) → ℕ
right_frsum v free c k =
    sum_by (λ b. if is_free_block (block_bits v free c b) then 0
    else count_by (λ n. n == k) (free_stretches 0 (block_bits v free c b)))
    (block_numbers v)

-- the numbers of all groups
abbrev pub group_numbers : Layout → List ℕ
group_numbers v = range_with_len 0 v.ncg

-- the right totals of the superblock: the sums over all groups
unfoldable pub right_total : Layout → (ℕ → Bool) → (ℕ → Class) → GroupCounts
right_total v free class = record {
  dirs = sum_by (λ c. (right_group_counts v free class c).dirs) (group_numbers v);
  blocks = sum_by (λ c. (right_group_counts v free class c).blocks) (group_numbers v);
  inodes = sum_by (λ c. (right_group_counts v free class c).inodes) (group_numbers v);
  fragments = sum_by (λ c. (right_group_counts v free class c).fragments) (group_numbers v);
}

-- the group block of c, as the image has it
abbrev pub group_block : (v : Layout) (image : List ℕ) (c : ℕ) → List ℕ
group_block v image c = piece (group_place v c) v.cgsize image

-- the record of group c in the summary area, as the image has it
abbrev pub summary_record : (v : Layout) (image : List ℕ) (c : ℕ) → List ℕ
summary_record v image c = piece (summary_place v c) CSUM_SIZE image

-- the four counts at a place are those of s. They are signed in the image, but those of s are below
-- 2^31, so to compare them as unsigned numbers is the same
abbrev pub has_counts : (v : Layout) (place : ℕ) (bytes : List ℕ) (s : GroupCounts) → Bool
has_counts v place bytes s =
    u32_at v.order place bytes == s.dirs && (u32_at v.order (place + 4) bytes == s.blocks
    && (u32_at v.order (place + 8) bytes == s.inodes && u32_at v.order (place + 12) bytes == s.fragments))

-- bit k of the map at a place
abbrev pub bit_at : (block : List ℕ) (place k : ℕ) → Bool
bit_at block place k = (slice_index block (place + k / 8) / 2 ^ (k % 8)) % 2 == 1

-- both are set, or neither is
abbrev pub same_bit : Bool → (b : Bool) → Bool
same_bit true b = b
same_bit false b = not b

-- the first n bits of the map at a place are as the test says
abbrev pub has_bits : (block : List ℕ) (place n : ℕ) (bits : ℕ → Bool) → Bool
has_bits block place n bits = all_below n (λ k. same_bit (bit_at block place k) (bits k))

-- where the map of inodes is in a group block (iusedoff)
abbrev pub inode_map_place : Layout → List ℕ → ℕ
inode_map_place v block = u32_at v.order 92 block

-- where the map of fragments is in a group block (freeoff)
abbrev pub fragment_map_place : Layout → List ℕ → ℕ
fragment_map_place v block = u32_at v.order 96 block

-- the maps end within the group block
unfoldable pub maps_fit : Layout → List ℕ → Bool
maps_fit v block =
    nat_le (inode_map_place v block + div_ceil v.ipg 8) v.cgsize
    && nat_le (fragment_map_place v block + div_ceil v.fpg 8) v.cgsize

-- the magic number of a group block is right
unfoldable pub has_right_magic : Layout → List ℕ → Bool
has_right_magic v block = u32_at v.order 4 block == CG_MAGIC

-- both maps are right
unfoldable pub has_right_maps : (v : Layout) (free : ℕ → Bool) (class : ℕ → Class) (c : ℕ) (block : List ℕ) → Bool
has_right_maps v free class c block =
    has_bits block (inode_map_place v block) v.ipg (λ k. is_used_inode class (c * v.ipg + k))
    && has_bits block (fragment_map_place v block) (group_size v c) (λ k. free (cgbase v c + k))

-- the group's number, its number of fragments, its four counts and its frsum are right (cgx, ndblk,
-- cs, frsum). No other field of the header is compared
unfoldable pub has_right_sums : (v : Layout) (free : ℕ → Bool) (class : ℕ → Class) (c : ℕ) (block : List ℕ) → Bool
has_right_sums v free class c block =
    u32_at v.order 12 block == c && (u32_at v.order 20 block == group_size v c
    && (has_counts v 24 block (right_group_counts v free class c)
    && all_below 8 (λ k. u32_at v.order (52 + 4 * k) block == right_frsum v free c k)))

-- the bytes of the group's record in the summary area are right
unfoldable pub has_right_record : (v : Layout) (free : ℕ → Bool) (class : ℕ → Class) (c : ℕ) (bytes : List ℕ) → Bool
has_right_record v free class c bytes = has_counts v 0 bytes (right_group_counts v free class c)

-- the totals of a superblock are these counts
abbrev pub has_totals : List ℤ → GroupCounts → Bool
has_totals total s =
    equals_natural (slice_index_or total 0 (pos 0)) s.dirs && (equals_natural (slice_index_or total 1 (pos 0)) s.blocks
    && (equals_natural (slice_index_or total 2 (pos 0)) s.inodes
    && equals_natural (slice_index_or total 3 (pos 0)) s.fragments))

-- the totals are right
unfoldable pub has_right_totals : Layout → (ℕ → Bool) → (ℕ → Class) → List ℤ → Bool
has_right_totals v free class total = has_totals total (right_total v free class)
