-- What a survey finds, which directories it flags, and what it leaves as it was.
use Rattle.std.specs.Prelude.{◌≡◌, ◌+◌, ◌≤◌, ℕ, false, true, List, OnErr, OnOk, Result, slice_index}
use Rattle.ffs_workspace.specs.{Moments.WorkMoment, declared.workspace.Workspace.Workspace, Leaves.LeavesBlockCheck}
use Rattle.ffs_workspace.specs.{Ready.IsReady, Holds.{HoldsBlockCheck, HoldsReferences, HoldsSurvey}}
use Rattle.ffs_image.specs.{Device.Device, Reads.ReadAfter, declared.image.ImageFault.ImageFault}
use Rattle.ffs_volume.specs.{declared.Layout.Layout, Directories.{Roles.roled_entries, Volumes.volume_of}}
use Rattle.ffs_volume.specs.{Costs.Calm.is_directory_of_right_shape, Encodings.Lists.bool_at}
use Rattle.ffs_volume.specs.Costs.DirectoryReads.{noted_directories_cost}
use Rattle.ffs_survey.specs.Calm.{AreCalm}
use Rattle.ffs_names.specs.CalmDirs.{FlagsEachCalm}

-- what a survey leaves: the workspace is ready for the next call, `words` is zero, so that it notes no
-- place of a parent entry, and the image was only read. After a failed read it counts as not surveyed
pub record SurveyLeaves {T : Type 0} (v : Layout) (d d' : Device) (old new : Workspace) (result : Result T ImageFault) :
    Type 0 where
  pub same : LeavesBlockCheck old new
  pub unnoted : (x : ℕ) → slice_index new.words.items x ≡ 0
  pub ready : IsReady v d' new
  pub read : ReadAfter d d' result
  pub unsurveyed : OnErr result (new.surveyed ≡ false)

-- a survey of a workspace that was surveyed before reads nothing, and changes nothing but that no flag is set
-- and no place is noted
pub record SurveysNoMore (reads reads' : ℕ) (old new : Workspace) : Type 0 where
  pub unread : reads' ≡ reads
  pub stays : new ≡ record old { flags = new.flags; words = new.words }
  pub unflagged : (x : ℕ) → bool_at new.flags.items x ≡ false

-- `flags` has only directories that are calm by what was reached when each was read, and by the kinds and
-- marks of the workspace. Each that is calm by the bytes (`is_calm_directory`) is one of these, since it has a
-- flag (`FlagsEachCalm`)
pub record FlagsOnlyCalm (v : Layout) (b : List ℕ) (w : Workspace) : Type 0 where
  pub calm : AreCalm w.kinds.items w.marked.items w.reached.items w.parents.items (roled_entries (volume_of v b))
      (is_directory_of_right_shape (volume_of v b)) w.flags.items

-- what a survey finds is held: also how often each inode is referred to, counted once. It counts as made, and
-- what the block check found is held still, so that another survey finds the same; and only calm directories have a flag
pub record IsSurveyed (v : Layout) (b : List ℕ) (w : Workspace) : Type 0 where
  pub survey : HoldsSurvey v b w
  pub references : HoldsReferences v b w
  pub surveyed : w.surveyed ≡ true
  pub block_check : HoldsBlockCheck v b w
  pub calm : FlagsOnlyCalm v b w

-- a survey reads all directories: where no read failed, what it finds is held, and each calm directory has a
-- flag. The image was read at most as often as the directories ask for
pub record SurveysAll {T : Type 0} (v : Layout) (b : List ℕ) (old new : WorkMoment) (result : Result T ImageFault)
    : Type 0 where
  pub found : OnOk result (IsSurveyed v b new.workspace)
  pub flags : OnOk result (FlagsEachCalm v b new.workspace)
  pub counted : new.reads ≤ old.reads + noted_directories_cost v b
