-- What the calls of phase 2 are asked to say of a directory.
use Rattle.std.specs.Prelude.{◌≡◌, ℕ, suc, ◌*◌, List}
use Rattle.ffs_volume.specs.{declared.Layout.Layout, Directories.{PathnameCheck.directory_lines, Volumes.volume_of}}
use Rattle.ffs_volume.specs.{Directories.PathnameCheck.{dir_header_lines, sized_dir_lines}, Messages.Kinds.TreeMessage}
use Rattle.ffs_volume.specs.Costs.DirectoryReads.{directory_cost, directory_runs}
use Rattle.ffs_pathnames.specs.{Before.KnowsBeforeWithPlaces, Begins.IsDirectoryBegun, ChecksNeeded.KeepsFlags}
use Rattle.ffs_pathnames.specs.Sees.{passed_of}
use Rattle.ffs_pathnames.specs.{PassedNames.{after_directory, directory_reported}, PassedRight.RemembersBefore}
use Rattle.ffs_pathnames.specs.{Moments.LinesMoment, ReadsLeft.{KnowsForBoth, KnowsForLook, KnowsForNext, KnowsForRuns}}
use Rattle.ffs_pathnames.specs.declared.{checking.Checking.Checking, look.{Directory.Directory, FirstLook.FirstLook}}

-- what is asked of a call for a directory: what it may know of the bytes, how often it reads the directory's
-- own blocks at most, the lines that it says, and what holds of its answer then
pub record DirectoryTask (T : Type 0) : Type 1 where
  pub knows : List ℕ → Type 0
  pub own_reads : List ℕ → ℕ
  pub lines : List ℕ → List TreeMessage
  pub after : T → List ℕ → Type 0

-- of `check_if_needed`: all lines of a directory, in two readings. What is remembered of names is right then, and
-- places are noted
abbrev pub check_task : Layout → (dir : ℕ) → (old new : LinesMoment Checking) → DirectoryTask (Unit {0})
check_task v dir old new = record {
  knows = KnowsForNext v old.at.image old.at.workspace dir old.kept.reads_left;
  own_reads = λ b. 2 * directory_cost v b dir;
  lines = λ b. directory_lines (volume_of v b) dir;
  after = λ _ b. KnowsBeforeWithPlaces v old.at.image.contents new.at.workspace (suc dir) b
      × KeepsFlags old.at.workspace new.at.workspace;
}

-- of `check_directory`: the same of one that isn't of size 0; of noted places nothing is said
abbrev pub sized_task : Layout → (dir : ℕ) → (old new : LinesMoment Checking) → DirectoryTask (Unit {0})
sized_task v dir old new = record {
  knows = KnowsForBoth v old.at.image old.at.workspace dir old.kept.reads_left;
  own_reads = λ b. 2 * directory_cost v b dir;
  lines = λ b. sized_dir_lines (volume_of v b) dir;
  after = λ _ b. RemembersBefore (volume_of v b) (suc dir) (passed_of new.at.workspace)
      × KeepsFlags old.at.workspace new.at.workspace;
}

-- of `begin_directory`: the first look, which is one reading, and the lines before those of the entries. Then: what the
-- look found, and stamps
abbrev pub begin_task : Layout → (dir : ℕ) → (old new : LinesMoment Checking) → DirectoryTask FirstLook
begin_task v dir old new = record {
  knows = KnowsForLook v old.at.image old.at.workspace dir old.kept.reads_left;
  own_reads = λ b. directory_cost v b dir;
  lines = λ b. dir_header_lines (volume_of v b) dir;
  after = λ f b. IsDirectoryBegun v b dir old.at.workspace f new.at.workspace;
}

-- of `report_entries`: the second reading, of the Runs of a known inode, and the lines of the entries. Then these are
-- passed
abbrev pub entries_task : Layout → Directory → (old new : LinesMoment Checking) → DirectoryTask (Unit {0})
entries_task v directory old new = record {
  knows = KnowsForRuns v old.at.image old.at.workspace directory old.kept.reads_left;
  own_reads = λ b. directory_runs v b directory.number;
  lines = λ b. directory_reported (volume_of v b) directory.number (passed_of old.at.workspace);
  after = λ _ b. after_directory (volume_of v b) directory.number (passed_of old.at.workspace)
      ≡ passed_of new.at.workspace;
}
