-- What phase 3 has said where a read failed: just what comes before the lines of a directory of its sector.
use Rattle.std.specs.Prelude.{◌≡◌, ℕ, ◌<◌, List, [], ◌∷◌, true, map}
use Rattle.ffs_image.specs.Known.{ForBytes}
use Rattle.ffs_report.specs.{PhaseOutcome.SaidOf, Progress.Progress}
use Rattle.ffs_volume.specs.{declared.Layout.Layout, Blocks.Inodes.inodes_of}
use Rattle.ffs_volume.specs.Directories.{Connectivity.{is_unref_dir, unref_dir_lines}, Volumes.volume_of}
use Rattle.ffs_volume.specs.Messages.Kinds.{Message, lines_below, of_tree, phase3}
use Rattle.ffs_workspace.specs.Tables.{FailsBeforeLine, IsSectorOfInode}

-- the read that failed in this sector is of the block that holds the directory x, x has a line, and nothing was said
abbrev pub FailsBeforeUnref : (knows : List ℕ → Type 0) → Layout → (x : ℕ) → (old new : Progress) → (sector : ℕ)
    → Type 0
FailsBeforeUnref knows v x old new sector =
    FailsBeforeLine v x old new sector × ForBytes knows (λ bytes. is_unref_dir (volume_of v bytes) x ≡ true)

-- the messages of phase 3 before that of the directory x: its heading, and the lines of the directories below x
abbrev pub messages_before_directory : Layout → (x : ℕ) → (bytes : List ℕ) → List Message
messages_before_directory v x bytes = phase3 ∷ map of_tree (lines_below (unref_dir_lines (volume_of v bytes)) x)

-- the read that failed in this sector is of the block that holds a directory with a line, and just the messages before
-- that line were said
pub record SaidBeforeDirectory (knows : List ℕ → Type 0) (v : Layout) (old new : Progress) (sector : ℕ) : Type 0 where
  pub dir : ℕ
  pub low : dir < inodes_of v
  pub failed : IsSectorOfInode v dir sector
  pub unref : ForBytes knows (λ bytes. is_unref_dir (volume_of v bytes) dir ≡ true)
  pub said : SaidOf knows (λ bytes. []) (messages_before_directory v dir) old new
