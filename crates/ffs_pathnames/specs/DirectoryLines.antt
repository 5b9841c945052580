-- What the check of directories reports, how often it reads the image for that, and what it leaves.
use Rattle.std.specs.Prelude.{◌≡◌, ℕ, ◌+◌, ◌*◌, ◌≤◌, true, IfOk, List, OnOk, Result, length, map}
use Rattle.ffs_report.specs.{Paid.Paid, PhaseOutcome.{ImageAfter, PhaseReports}, declared.fault.RunFault.RunFault}
use Rattle.ffs_image.specs.Known.{ForBytes}
use Rattle.ffs_volume.specs.{declared.Layout.Layout, Directories.{PathnameCheck.dir_header_lines, Roles.roled_entries}}
use Rattle.ffs_volume.specs.{Directories.{Roles.Volume, Volumes.volume_of}, Report.Reads.{line_reads, path_reads}}
use Rattle.ffs_volume.specs.{Report.Reads.sweep_reads, Messages.Kinds.{TreeMessage, of_tree}}
use Rattle.ffs_volume.specs.Costs.DirectoryReads.{directories_cost, directory_cost, directory_runs, looks_cost}
use Rattle.ffs_volume.specs.{Costs.DirectoryReads.places_cost, Encodings.Places.PlacesAreNoted}
use Rattle.ffs_paths.specs.declared.kept_parent.KeptParent.{KeptParent}
use Rattle.ffs_workspace.specs.{Holds.{HoldsBlockCheck, HoldsSurvey}, Leaves.LeavesAllButPlaces, Ready.CanRead}
use Rattle.ffs_pathnames.specs.{ChecksNeeded.ChecksLookedAt, Before.KnowsBefore, LineReads.{again_reads, ReadsByLines}}
use Rattle.ffs_pathnames.specs.{Sees.passed_of, HeaderValues.{KnowsHeader, facts_lines}, Moments.LinesMoment}
use Rattle.ffs_pathnames.specs.{PassedNames.are_quiet, Ready.{LinesLeave, DirectoryLeaves}}
use Rattle.ffs_pathnames.specs.{declared.checking.Checking.Checking, Tasks.{DirectoryTask, entries_task, sized_task}}
use Rattle.ffs_pathnames.specs.declared.{header.HeaderFacts.HeaderFacts, look.Directory.Directory}

-- the lines on what was found of a directory before its entries are said, and the image is read for no more
-- than these; any image for no more than the messages that were begun. All of the workspace but its windows
-- stays
pub record ReportsHeader {T : Type 0} (v : Layout) (h : HeaderFacts) (old new : LinesMoment KeptParent)
    (result : Result T RunFault) : Type 0 where
  pub text : PhaseReports (KnowsHeader v old.at.image old.at.workspace h)
      (λ b. map of_tree (facts_lines (volume_of v b) h)) old.report new.report result
  pub counted : ReadsByLines v (KnowsHeader v old.at.image old.at.workspace h) (λ b. facts_lines (volume_of v b) h)
      old.at new.at
  pub paid : Paid line_reads old.report new.report old.at.reads new.at.reads result
  pub leaves : LinesLeave v old.at new.at new.kept result

-- the lines of a task are said, by what is known of the bytes, and what it asks of the answer holds. The
-- directory's own blocks are read `own_reads` times at most, which are taken of the reads that are left, and the
-- rest is read for the lines; of any image for no more than the messages that were begun
pub record ReportsDirectory {T : Type 0} (v : Layout) (task : LinesMoment Checking → LinesMoment Checking → DirectoryTask T)
    (old new : LinesMoment Checking) (result : Result T RunFault) : Type 0 where
  pub text : PhaseReports (task old new).knows (λ b. map of_tree ((task old new).lines b)) old.report new.report result
  pub reads : ForBytes (task old new).knows (λ b. PlacesAreNoted v b old.at.workspace.words.items
      → new.at.reads ≤ old.at.reads + ((task old new).own_reads b + line_reads * length ((task old new).lines b)))
  pub spends : ForBytes (task old new).knows
      (λ b. old.kept.reads_left ≤ new.kept.reads_left + (task old new).own_reads b)
  pub paid : Paid line_reads old.report new.report (old.at.reads + old.kept.reads_left)
      (new.at.reads + new.kept.reads_left) result
  pub holds : IfOk result (λ x. ForBytes (task old new).knows ((task old new).after x))
  pub leaves : DirectoryLeaves v old.at new.at new.kept.texts.kept_parent result

-- these lines of all directories are said, by what is known of the bytes. Each directory's own blocks are
-- read thrice at most, for the places of its children, for a first look and for a second reading, and the
-- rest is read for the lines; where only directories that are looked at need a check, their own blocks alone
-- are read. Any image is read for no more than the messages that were begun. Left are the image, but for a
-- read that failed, a workspace that is ready, and what the block check and the survey found; places that are noted
-- are right, too
pub record ReportsTree {T : Type 0} (v : Layout) (lines : Volume → List TreeMessage) (old new : LinesMoment (Unit {0}))
    (result : Result T RunFault) : Type 0 where
  pub text : PhaseReports (KnowsBefore v old.at.image.contents old.at.workspace 2)
      (λ b. map of_tree (lines (volume_of v b))) old.report new.report result
  pub reads : ForBytes (KnowsBefore v old.at.image.contents old.at.workspace 2) (λ b.
      new.at.reads ≤ old.at.reads + (3 * directories_cost v b + line_reads * length (lines (volume_of v b))))
  pub looks : ForBytes (KnowsBefore v old.at.image.contents old.at.workspace 2) (λ b.
      ChecksLookedAt v b old.at.workspace → new.at.reads
      ≤ old.at.reads + (places_cost v b + looks_cost v b + line_reads * length (lines (volume_of v b))))
  pub paid : Paid line_reads old.report new.report (old.at.reads + 3 * sweep_reads v) new.at.reads result
  pub image : ImageAfter old.at.image new.at.image result
  pub holds : ForBytes (KnowsBefore v old.at.image.contents old.at.workspace 2)
      (λ b. HoldsBlockCheck v b new.at.workspace × HoldsSurvey v b new.at.workspace)
  pub findings : LeavesAllButPlaces old.at.workspace new.at.workspace
  pub ready : CanRead v new.at.image new.at.workspace

-- the entries of a directory are reported: its Runs are read once, its path is made once, and for each line
-- `again_reads` reads are made at most, where the place of each directory is noted
abbrev pub ReadsForEntries : Layout → Directory → (old new : LinesMoment Checking) → Type 0
ReadsForEntries v directory old new = ForBytes (entries_task v directory old new).knows (λ b.
    PlacesAreNoted v b old.at.workspace.words.items → new.at.reads ≤ old.at.reads + (directory_runs v b directory.number
    + (path_reads + again_reads * length ((entries_task v directory old new).lines b))))

-- where a first look at the directory `dir` makes sure that nothing is reported of its entries, its own blocks
-- are read once, and the rest is read for the lines that come before these
abbrev pub ReadsQuietOnce : Layout → (dir : ℕ) → (old new : LinesMoment Checking) → Type 0
ReadsQuietOnce v dir old new = ForBytes (sized_task v dir old new).knows (λ b.
    PlacesAreNoted v b old.at.workspace.words.items
    → are_quiet (volume_of v b) dir old.at.workspace.flags.items (passed_of old.at.workspace).stamps
    (roled_entries (volume_of v b) dir) ≡ true
    → new.at.reads
    ≤ old.at.reads + (directory_cost v b dir + line_reads * length (dir_header_lines (volume_of v b) dir)))
