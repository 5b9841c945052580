-- What phases 4 and 5 have said where a read failed: just what comes before the lines of an inode, or of a group, of
-- its sector.
use Rattle.std.specs.{Prelude.{ℕ, ◌<◌, List, [], ◌∷◌, map}, List.{flat_map, range_with_len}}
use Rattle.ffs_volume.specs.{declared.{BlockMessage.BlockMessage, Layout.Layout}, Blocks.Owners.owners_of}
use Rattle.ffs_volume.specs.Blocks.Inodes.{inodes_of}
use Rattle.ffs_volume.specs.Directories.{ReferenceCheck.reference_lines_at, Volumes.{class_at, volume_of}}
use Rattle.ffs_volume.specs.Messages.Kinds.{Message, lines_below, of_blocks, of_tree, phase4, phase5}
use Rattle.ffs_volume.specs.Groups.GroupCheck.{group_lines, is_free_of_kept, reported_once, unreported}
use Rattle.ffs_report.specs.{PhaseOutcome.SaidOf, Progress.Progress}
use Rattle.ffs_workspace.specs.Tables.{IsSectorOfInode}
use Rattle.ffs_counts.specs.Records.{IsSectorOf}

-- the lines of the groups below c, repeated ones too
abbrev pub lines_below_group : Layout → (c : ℕ) → (bytes : List ℕ) → List BlockMessage
lines_below_group v c bytes =
    flat_map (group_lines v bytes (is_free_of_kept v (owners_of v bytes)) (class_at v bytes)) (range_with_len 0 c)

-- the messages of phase 5 before those of group c: its heading, and what is said of the groups below c
abbrev pub messages_before_group : Layout → (c : ℕ) → (bytes : List ℕ) → List Message
messages_before_group v c bytes = phase5 ∷ map of_blocks (reported_once unreported (lines_below_group v c bytes))

-- the read that failed in this sector is one for a group, and just the messages before those of that group
-- were said
pub record SaidBeforeGroup (knows : List ℕ → Type 0) (v : Layout) (old new : Progress) (sector : ℕ) : Type 0 where
  pub group : ℕ
  pub low : group < v.ncg
  pub failed : IsSectorOf v group sector
  pub said : SaidOf knows (λ bytes. []) (messages_before_group v group) old new

-- the messages of phase 4 before that of the inode x: its heading, and the lines of the inodes below x
abbrev pub messages_before_inode : Layout → (x : ℕ) → (bytes : List ℕ) → List Message
messages_before_inode v x bytes = phase4 ∷ map of_tree (lines_below (reference_lines_at (volume_of v bytes)) x)

-- the read that failed in this sector is of the block that holds an inode, and just the messages before that of
-- the inode were said
pub record SaidBeforeInode (knows : List ℕ → Type 0) (v : Layout) (old new : Progress) (sector : ℕ) : Type 0 where
  pub inode : ℕ
  pub low : inode < inodes_of v
  pub failed : IsSectorOfInode v inode sector
  pub said : SaidOf knows (λ bytes. []) (messages_before_inode v inode) old new
