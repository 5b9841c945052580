-- The classes of inodes, as a list of their kinds has them.
use Rattle.std.specs.{Prelude.{ℕ, ◌≡◌, ◌-◌, ◌<◌, ◌≤◌, List, length, slice_index, count_by, not}, List.range_with_len}
use Rattle.ffs_volume.specs.{declared.Layout.Layout, Groups.Records.{is_used_inode, is_dir_inode, group_inodes}}
use Rattle.ffs_volume.specs.{declared.Class.Class, Encodings.Kinds.class_of_kind}
use Rattle.ffs_groups.specs.declared.inodes.InodeCounts.{InodeCounts}

-- the class of inode x
abbrev pub class_in : List ℕ → ℕ → Class
class_in kinds x = class_of_kind (slice_index kinds x)

-- the inodes from `first` on and below `end` are past the first two, and so few that a byte counts them
pub record AreFew (listed : List ℕ) (first end : ℕ) : Type 0 where
  pub past_two : 2 ≤ first
  pub order : first ≤ end
  pub few : end - first < 256
  pub within : end ≤ length listed

-- d of the inodes from `first` on and below `end` are directories, and f are free
pub record AreCounted (class : ℕ → Class) (first end d f : ℕ) : Type 0 where
  pub dirs : d ≡ count_by (is_dir_inode class) (range_with_len first (end - first))
  pub free : f ≡ count_by (λ x. not (is_used_inode class x)) (range_with_len first (end - first))

-- the counts are those of the directories and of the free inodes of group c
pub record AreInodeCounts (v : Layout) (class : ℕ → Class) (c : ℕ) (counts : InodeCounts) : Type 0 where
  pub dirs : counts.dirs ≡ count_by (is_dir_inode class) (group_inodes v c)
  pub free : counts.free ≡ count_by (λ x. not (is_used_inode class x)) (group_inodes v c)
