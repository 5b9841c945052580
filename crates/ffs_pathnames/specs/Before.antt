-- What is known between two directories of the pathname check.
use Rattle.std.specs.Prelude.{◌≡◌, ℕ, not, ◌&&◌, List, Option, Some, slice_index}
use Rattle.ffs_image.specs.Device.{Device}
use Rattle.ffs_volume.specs.{declared.Layout.Layout, Directories.Volumes.volume_of, Encodings.Places.PlacesAreNoted}
use Rattle.ffs_workspace.specs.{declared.workspace.Workspace.Workspace, Leaves.LeavesSurvey, Holds.bool_at}
use Rattle.ffs_workspace.specs.{Holds.{HoldsBlockCheck, HoldsSurvey}, Ready.{CanRead, IsReady}}
use Rattle.ffs_pathnames.specs.{PassedRight.RemembersBefore, Sees.passed_of}
use Rattle.ffs_survey.specs.Survey.{suspect_at}

-- what was found stays; the flags of suspect inodes are taken away, and no others; nothing is
-- stamped; and the windows hold nothing: so whatever image is read, they hold none of other bytes
pub record IsNonePassed (old new : Workspace) : Type 0 where
  pub survey : LeavesSurvey old new
  pub flags : (x : ℕ) → bool_at new.flags.items x
      ≡ (bool_at old.flags.items x && not (suspect_at old.kinds.items old.marked.items x))
  pub stamps : (x : ℕ) → slice_index (passed_of new).stamps x ≡ 0
  pub ready : (v : Layout) (d : Device) → IsReady v d old → CanRead v d new

-- the image gives the bytes, the workspace holds what the block check and the survey leave, and
-- what it remembers of the names that were passed before `dir` is right
pub record KnowsBefore (v : Layout) (contents : Option (List ℕ)) (w : Workspace) (dir : ℕ) (b : List ℕ) : Type 0 where
  pub gives_bytes : contents ≡ Some b
  pub block_check : HoldsBlockCheck v b w
  pub survey : HoldsSurvey v b w
  pub passed : RemembersBefore (volume_of v b) dir (passed_of w)

-- KnowsBefore, and a place is noted of the parent entry of each directory that is reached and isn't the root
pub record KnowsBeforeWithPlaces (v : Layout) (contents : Option (List ℕ)) (w : Workspace) (dir : ℕ) (b : List ℕ) : Type 0 where
  pub before : KnowsBefore v contents w dir b
  pub noted : PlacesAreNoted v b w.words.items
