-- What phase 2 leaves at its answer, and how often it reads the image.
use Rattle.std.specs.Prelude.{◌≡◌, ◌⊎◌, ◌≤◌, ◌+◌, ◌*◌, ℕ, true, false, [], ◌∷◌, length, Result, Ok, Err}
use Rattle.ffs_image.specs.{Device.Device, Known.ForBytes}
use Rattle.ffs_volume.specs.{declared.Layout.Layout, Directories.PathnameCheck.{continues_after_root, pathname_lines}}
use Rattle.ffs_volume.specs.{Directories.Volumes.volume_of, Messages.Kinds.phase2, Report.Reads.line_reads}
use Rattle.ffs_volume.specs.{Report.Reads.pathname_reads, Costs.DirectoryReads.directories_cost}
use Rattle.ffs_volume.specs.{Costs.DirectoryReads.{noted_directories_cost, phase2_cost}, Report.Whole.phase2_messages}
use Rattle.ffs_report.specs.{Progress.{Progress, Said}, declared.fault.RunFault.{RunFault, TheVariants.{Read, Out}}}
use Rattle.ffs_workspace.specs.{declared.workspace.Workspace.Workspace, Found.WithBlockCheck, Holds.HoldsBlockCheck}
use Rattle.ffs_workspace.specs.Holds.{HoldsFindings}
use Rattle.ffs_pathnames.specs.{RootAnswers.SaidStop, declared.pass2.Root.{Root, TheVariants.{Go, Stop}}}

-- what phase 2 leaves, by its answer.
-- At Ok: the check continues after the root as the image's bytes say, and the workspace holds what the block check
-- and the survey found, and the counts of references. Where the check stops after the root, the heading and the
-- root's message were said.
-- Where a read failed: the heading alone was said, or the check continues after the root. So a message is
-- missing then, of phase 2 or of a later one. If the survey is made, all is held that is held at Ok.
-- Where the output failed: what the block check found is held still
abbrev pub Phase2Ends : Layout → Device → (w w' : Workspace) → (old new : Progress) → Result Root RunFault →
    Type 0
Phase2Ends v d w w' old new (Ok Go) = ForBytes (WithBlockCheck v d w) (λ bytes.
    (continues_after_root (volume_of v bytes) ≡ true) × HoldsFindings v bytes w')
Phase2Ends v d w w' old new (Ok Stop) = ForBytes (WithBlockCheck v d w) (λ bytes.
    (continues_after_root (volume_of v bytes) ≡ false) × HoldsFindings v bytes w')
    × SaidStop (WithBlockCheck v d w) (phase2 ∷ []) (phase2_messages v) old new
Phase2Ends v d w w' old new (Err (Read fault)) = (Said old new (phase2 ∷ [])
    ⊎ ForBytes (WithBlockCheck v d w) (λ bytes. continues_after_root (volume_of v bytes) ≡ true))
    × (w'.surveyed ≡ true → ForBytes (WithBlockCheck v d w) (λ bytes. HoldsFindings v bytes w'))
Phase2Ends v d w w' old new (Err (Out fault)) = ForBytes (WithBlockCheck v d w) (λ bytes. HoldsBlockCheck v bytes w')

-- Known bytes, of which the workspace holds what the block check found, are read at most `pathname_reads` times.
-- What a volume holds counts, too: its directories are read for the survey, for the places of parent entries, and
-- twice for the messages. Where the survey is the first, those of which nothing can be reported, and that aren't
-- marked, are not read for the messages; and where there are no others, no places are noted either: each is read
-- for the survey alone. Where a survey was made before, none is made again. Where the check stops after the root,
-- the survey alone reads
pub record Phase2Reads (v : Layout) (d : Device) (w : Workspace) (before after : ℕ) : Type 0 where
  pub known : ForBytes (WithBlockCheck v d w) (λ bytes.
      after ≤ before + pathname_reads v (length (pathname_lines (volume_of v bytes))))
  pub directories : ForBytes (WithBlockCheck v d w) (λ bytes.
      after ≤ before + (4 * directories_cost v bytes + line_reads * length (pathname_lines (volume_of v bytes))))
  pub looked_at : w.surveyed ≡ false → ForBytes (WithBlockCheck v d w) (λ bytes.
      after ≤ before + (phase2_cost v bytes + line_reads * length (pathname_lines (volume_of v bytes))))
  pub surveyed_before : w.surveyed ≡ true → ForBytes (WithBlockCheck v d w) (λ bytes.
      after ≤ before + (3 * directories_cost v bytes + line_reads * length (pathname_lines (volume_of v bytes))))
  pub stopped : ForBytes (WithBlockCheck v d w) (λ bytes. continues_after_root (volume_of v bytes) ≡ false
      → after ≤ before + noted_directories_cost v bytes)
