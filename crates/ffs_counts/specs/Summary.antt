-- What the summary says.
use Rattle.std.specs.Prelude.{◌≡◌, ℕ, [], ◌∷◌, Result, length}
use Rattle.ffs_report.specs.Progress.{Progress, Says}
use Rattle.ffs_image.specs.Known.{ForBytes}
use Rattle.ffs_volume.specs.{Disk.Superblock.Superblock, Report.Whole.{summary_of, file_count, claimed_count}}
use Rattle.ffs_maps.specs.Bits.{bits_of}
use Rattle.ffs_counts.specs.{Reserved.{HasReserved, claimed_in}, Summing.files_among}
use Rattle.ffs_workspace.specs.{declared.workspace.Workspace.Workspace, Holds.HoldsBlockCheck}

-- a summary is said, of any image: its counts are those of the kinds in the workspace, and of its map of used
-- fragments, where that has the reserved ones. So they are those of the bytes whose claims it holds
pub record SaysSummary {T E : Type 0} (s : Superblock) (w : Workspace) (old new : Progress) (result : Result T E) :
    Type 0 where
  pub files : ℕ
  pub claimed : ℕ
  pub files_counted : files ≡ files_among w.kinds.items 2 (length w.kinds.items)
  pub claimed_counted : HasReserved s.layout (bits_of w.used) → claimed ≡ claimed_in s.layout (bits_of w.used)
  pub files_right : ForBytes (λ bytes. HoldsBlockCheck s.layout bytes w) (λ bytes. files ≡ file_count s.layout bytes)
  pub claimed_right : ForBytes (λ bytes. HoldsBlockCheck s.layout bytes w)
      (λ bytes. claimed ≡ claimed_count s.layout bytes)
  pub said : Says old new (summary_of s files claimed ∷ []) result
