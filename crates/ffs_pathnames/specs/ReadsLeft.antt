-- How many reads are left for first looks and second readings of directories, and what they suffice for.
use Rattle.std.specs.Prelude.{ℕ, ◌+◌, ◌*◌, ◌≤◌, List, Result, OnOk}
use Rattle.ffs_image.specs.{Device.Device, declared.image.ImageFault.ImageFault}
use Rattle.ffs_volume.specs.{declared.Layout.Layout, Directories.Volumes.volume_of, Costs.DirectoryReads.directory_cost}
use Rattle.ffs_volume.specs.Costs.DirectoryReads.{directory_runs}
use Rattle.ffs_workspace.specs.declared.workspace.Workspace.{Workspace}
use Rattle.ffs_pathnames.specs.{declared.look.Directory.Directory, KnowsAtDirectory.{KnowsAtDirectory, KnowsDirectory}}
use Rattle.ffs_pathnames.specs.{Before.KnowsBeforeWithPlaces, PassedRight.RemembersBefore, Sees.passed_of}

-- the bytes are those of KnowsAtDirectory, and the reads that are left suffice for a first look at the directory
abbrev pub KnowsForLook : Layout → Device → Workspace → (dir left : ℕ) → List ℕ → Type 0
KnowsForLook v d w dir left b = KnowsAtDirectory v d.contents w dir b × (directory_cost v b dir ≤ left)

-- the same of a second reading, where its inode was read
abbrev pub KnowsForRuns : Layout → Device → Workspace → Directory → (left : ℕ) → List ℕ → Type 0
KnowsForRuns v d w directory left b =
    KnowsDirectory v d w directory b × (directory_runs v b directory.number ≤ left)

-- the bytes are those of KnowsAtDirectory, what is remembered of the names that were passed
-- before it is right, and the reads that are left suffice for a first look at it and a second reading
pub record KnowsForBoth (v : Layout) (d : Device) (w : Workspace) (dir left : ℕ) (b : List ℕ) : Type 0 where
  pub knows : KnowsAtDirectory v d.contents w dir b
  pub passed : RemembersBefore (volume_of v b) dir (passed_of w)
  pub enough : 2 * directory_cost v b dir ≤ left

-- what is known between two directories, and the reads that are left suffice for a first look at the next one
-- and a second reading
abbrev pub KnowsForNext : Layout → Device → Workspace → (dir left : ℕ) → List ℕ → Type 0
KnowsForNext v d w dir left b = KnowsBeforeWithPlaces v d.contents w dir b × (2 * directory_cost v b dir ≤ left)

-- a call takes at most `allowed` of the reads that are left. Without a fault, `spared` of these are
-- left to later calls
pub record TakesLeft {T : Type 0} (left left' allowed spared : ℕ) (result : Result T ImageFault) : Type 0 where
  pub most : left ≤ left' + allowed
  pub paid : OnOk result (left + spared ≤ left' + allowed)
