-- What is found in the records of a group.
use Rattle.std.specs.Prelude.{ℕ, ◌≡◌, Bool, ◌&&◌, ◌==◌, List, ◌∷◌, ◌++◌, if◌then◌else◌, slice_index, length, ℤ, pos}
use Rattle.std.specs.{Int.{cast_unsigned, w32}, List.slice_index_or}
use Rattle.ffs_volume.specs.declared.{Layout.Layout, Class.Class, BlockMessage.{BlockMessage, TheVariants.GroupMagic}}
use Rattle.ffs_volume.specs.declared.BlockMessage.TheVariants.{FreeCounts, MapsWrong, GroupSums}
use Rattle.ffs_volume.specs.Groups.Records.{GroupCounts, right_group_counts, right_frsum, has_right_magic}
use Rattle.ffs_volume.specs.Groups.Records.{has_right_record, maps_fit, has_right_maps, has_right_sums}
use Rattle.ffs_volume.specs.Groups.GroupCheck.{unless}
use Rattle.ffs_layout.specs.declared.group.GroupSummary.{GroupSummary}
use Rattle.ffs_maps.specs.Bits.{bits_of}
use Rattle.ffs_groups.specs.{Free.free_in, Inodes.class_in, Inputs.HasMaps, declared.counts.Counts.Counts}
use Rattle.ffs_groups.specs.declared.{counts.SummaryCounts.SummaryCounts, check.GroupFindings.GroupFindings}
use Rattle.ffs_groups.specs.declared.check.InUse.{InUse}

-- the counts of a summary in memory, as the definitions have them
abbrev pub group_counts_of : SummaryCounts → GroupCounts
group_counts_of s = record { dirs = s.dirs; blocks = s.blocks; inodes = s.inodes; fragments = s.fragments }

-- the signed number of 32 bits has the bits of this count
unfoldable pub has_bits_of : ℤ → ℕ → Bool
has_bits_of found right = cast_unsigned w32 found == right

-- a summary of an image has these counts
abbrev pub same_counts : GroupSummary → SummaryCounts → Bool
same_counts found right =
    has_bits_of found.dirs right.dirs && (has_bits_of found.blocks right.blocks
    && (has_bits_of found.inodes right.inodes && has_bits_of found.fragments right.fragments))

-- the count of the stretches of this length is the right one
abbrev pub same_frsum_at : List ℤ → List ℕ → ℕ → Bool
same_frsum_at found right length = has_bits_of (slice_index_or found length (pos 0)) (slice_index right length)

-- the counts of group c are right
pub record AreCounts (v : Layout) (free : ℕ → Bool) (class : ℕ → Class) (c : ℕ) (counts : Counts) : Type 0 where
  pub summary : group_counts_of counts.summary ≡ right_group_counts v free class c
  pub frsum : (k : ℕ) → slice_index counts.frsum k ≡ right_frsum v free c k

-- what is reported of a group where such things are found
abbrev pub lines_of : GroupFindings → ℕ → List BlockMessage
lines_of f c =
    if f.magic_right
    then unless f.counts_right FreeCounts ++ (unless f.maps_right MapsWrong ++ unless f.sums_right GroupSums)
    else GroupMagic c ∷ unless f.counts_right FreeCounts

-- which fragments are free where these are used, and the class of each inode
abbrev pub free_by : Layout → InUse → ℕ → Bool
free_by v in_use = free_in (bits_of in_use.fragments.now) v.size

abbrev pub class_by : InUse → ℕ → Class
class_by in_use = class_in in_use.kinds.now

-- the maps of group c can be compared: a map of used fragments and the kinds of inodes are there, and
-- its group block
pub record CanCompareMaps (v : Layout) (in_use : InUse) (c : ℕ) (block : List ℕ) : Type 0 where
  pub maps : HasMaps v in_use.fragments.now.size in_use.kinds.now c
  pub block_length : length block ≡ v.cgsize

-- all records of group c can be compared: its maps can, its right counts are there too, and its record of the
-- summary area, which has 16 bytes (CSUM_SIZE)
pub record CanCompareGroup (v : Layout) (in_use : InUse) (c : ℕ) (counts : Counts) (summary block : List ℕ) :
    Type 0 where
  pub maps : CanCompareMaps v in_use c block
  pub right_counts : AreCounts v (free_by v in_use) (class_by in_use) c counts
  pub summary_length : length summary ≡ 16

-- each finding says whether the records of group c are right: in the summary area, and in its group
-- block
pub record AreFound (v : Layout) (in_use : InUse) (c : ℕ) (summary block : List ℕ) (f : GroupFindings) : Type 0 where
  pub magic : f.magic_right ≡ has_right_magic v block
  pub counts : f.counts_right ≡ has_right_record v (free_by v in_use) (class_by in_use) c summary
  pub maps : f.maps_right ≡ (maps_fit v block && has_right_maps v (free_by v in_use) (class_by in_use) c block)
  pub sums : f.sums_right ≡ has_right_sums v (free_by v in_use) (class_by in_use) c block
