-- What is reported of entries of a directory.
use Rattle.std.specs.Prelude.{◌≡◌, ℕ, IsTrue, List, OnOk, Result, length, map}
use Rattle.ffs_report.specs.{Paid.Paid, PhaseOutcome.PhaseReports, declared.fault.RunFault.RunFault}
use Rattle.ffs_image.specs.Known.{ForBytes}
use Rattle.ffs_volume.specs.{declared.Layout.Layout, Directories.{Roles.{RoledEntry, Volume}, Volumes.volume_of}}
use Rattle.ffs_volume.specs.{Messages.Kinds.{TreeMessage, of_tree}, Report.Reads.line_reads, Encodings.Places.PlacesAreNoted}
use Rattle.ffs_pathnames.specs.{KnowsAtDirectory.{KnowsAtDirectory, KeepsPath, KnowsPath}, LineReads.{ReadsByLines, ReadsPathOnce}}
use Rattle.ffs_pathnames.specs.{declared.entry_texts.EntryTexts.EntryTexts, Sees.passed_of, Moments.LinesMoment}
use Rattle.ffs_pathnames.specs.{PassedNames.{after_entries, entries_reported}, Ready.{LinesLeave, DirectoryLeaves}}

-- lines of entries of the directory `dir` are said, those of the volume; the path that is settled, if
-- any, is still that of `dir`, and made once; and the image is read for no more than these lines, any image
-- for no more than the messages that were begun
pub record SaysEntryLines {T : Type 0} (v : Layout) (dir : ℕ) (lines : Volume → List TreeMessage)
    (old new : LinesMoment EntryTexts) (result : Result T RunFault) : Type 0 where
  pub text : PhaseReports (KnowsPath v old.at.image.contents old.at.workspace dir old.kept)
      (λ b. map of_tree (lines (volume_of v b))) old.report new.report result
  pub path : KeepsPath v old.at.image old.at.workspace dir old.kept new.kept
  pub settled : IsTrue old.kept.path_settled → IsTrue new.kept.path_settled
  pub once : ForBytes (KnowsAtDirectory v old.at.image.contents old.at.workspace dir)
      (λ b. PlacesAreNoted v b old.at.workspace.words.items
      → ReadsPathOnce (length (lines (volume_of v b))) old.kept new.kept old.at.reads new.at.reads)
  pub counted : ReadsByLines v (KnowsAtDirectory v old.at.image.contents old.at.workspace dir)
      (λ b. lines (volume_of v b)) old.at new.at
  pub paid : Paid line_reads old.report new.report old.at.reads new.at.reads result

-- such lines are said, and all of the workspace but its windows stays
pub record ReportsOneEntry {T : Type 0} (v : Layout) (dir : ℕ) (messages : Volume → List TreeMessage)
    (old new : LinesMoment EntryTexts) (result : Result T RunFault) : Type 0 where
  pub lines : SaysEntryLines v dir messages old new result
  pub leaves : LinesLeave v old.at new.at new.kept.kept_parent result

-- the lines of these entries are said, and they are passed. The window of the current directory is as it
-- was
pub record PassesEntries {T : Type 0} (v : Layout) (dir : ℕ) (entries : List RoledEntry)
    (old new : LinesMoment EntryTexts) (result : Result T RunFault) : Type 0 where
  pub lines : SaysEntryLines v dir (λ vol. entries_reported vol dir (passed_of old.at.workspace) entries) old new result
  pub passed : OnOk result (ForBytes (KnowsAtDirectory v old.at.image.contents old.at.workspace dir) (λ b.
      after_entries (volume_of v b) dir (passed_of old.at.workspace) entries ≡ passed_of new.at.workspace))
  pub leaves : DirectoryLeaves v old.at new.at new.kept.kept_parent result
  pub current : new.at.workspace.windows.current ≡ old.at.workspace.windows.current
