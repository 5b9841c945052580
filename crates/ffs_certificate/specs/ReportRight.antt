-- The certificate: what a report without a defect says of the volume.
use Rattle.std.specs.Prelude.{true, ◌≡◌, ◌↔◌, ℕ, false, List, Option, Ok}
use Rattle.ffs_volume.specs.{declared.End.TheVariants.{Consistent, RootStop}, Disk.Superblock.Superblock}
use Rattle.ffs_volume.specs.{Disk.Outcome.outcome, Consistent.Volume.IsConsistent, Messages.Kinds.has_defect}
use Rattle.ffs_volume.specs.Report.Whole.{phase_lines, report_lines, end_of}
use Rattle.ffs_volume.specs.Directories.{PathnameCheck.continues_after_root, Volumes.volume_of}

-- no defect is reported, or the run ends as Consistent, exactly where the volume is consistent
pub record IsCertified (image : List ℕ) (s : Superblock) : Type 0 where
  pub silent : (has_defect (report_lines image s) ≡ false) ↔ IsConsistent image s
  pub end_is : (end_of image s ≡ Consistent) ↔ IsConsistent image s

-- the certificate, for each accepted superblock
abbrev pub ReportIsRight : Type 0
ReportIsRight = (image : List ℕ) (sector : Option ℕ) (s : Superblock) → outcome image sector ≡ Ok s
    → IsCertified image s

-- a run that stops after the root has reported a defect, and ends as such
pub record IsReportedStop (image : List ℕ) (s : Superblock) : Type 0 where
  pub reported : has_defect (phase_lines image s) ≡ true
  pub end_is : end_of image s ≡ RootStop

-- where inode 2 is no directory
abbrev pub StopIsReported : Type 0
StopIsReported = (image : List ℕ) (s : Superblock) → continues_after_root (volume_of s.layout image) ≡ false
    → IsReportedStop image s
