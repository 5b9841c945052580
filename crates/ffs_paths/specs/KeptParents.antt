-- What is kept for the path of the next directory.
use Rattle.std.specs.Prelude.{◌≡◌, ◌⊎◌, ◌+◌, ◌*◌, ◌<◌, ◌≤◌, ℕ, List, [], ◌∷◌, ◌++◌, Option, Some, Result, OnOk}
use Rattle.std.specs.Prelude.{slice_index}
use Rattle.ffs_workspace.specs.{Moments.{WorkMoment, work_moment}, declared.workspace.Workspace.Workspace}
use Rattle.ffs_workspace.specs.{Ready.CanRead, Holds.{HoldsBlockCheck, HoldsSurvey}}
use Rattle.ffs_image.specs.{Device.Device, declared.image.{Image.Ghosts, ImageFault.ImageFault}}
use Rattle.ffs_volume.specs.{declared.Layout.Layout, Directories.{Graph.Graph, Naming.graph_of, Paths.path_names}}
use Rattle.ffs_volume.specs.{Directories.Volumes.volume_of, Report.Reads.path_reads, Encodings.Places.part_in}
use Rattle.ffs_paths.specs.{Climbing.IsParentOf, DirectoryPaths.IsPathOf, Reads.{HoldsPlaceOf, KnowsPlaces, names_to}}
use Rattle.ffs_paths.specs.{Reads.{OnlyReads, ReadsAtMost, ReadsNames}, Slashes.HaveNoSlash, NameTexts.name_bytes}
use Rattle.ffs_paths.specs.declared.kept_parent.KeptParent.{KeptParent}

-- the names down to the child are those down to the parent, and one more
pub record LeadsTo (g : Graph) (parent child : ℕ) (name : List ℕ) : Type 0 where
  pub names : List (List ℕ)
  pub to_parent : path_names g parent ≡ Some names
  pub to_child : path_names g child ≡ Some (names ++ name ∷ [])
  pub single : HaveNoSlash (names ++ name ∷ [])

-- the path is that of the parent, and the name that of the child in it
pub record IsKeptParent (g : Graph) (s : KeptParent) : Type 0 where
  pub path : 0 < s.parent → IsPathOf g s.parent s.path
  pub parent : 0 < s.child → 0 < s.parent
  pub child : 0 < s.child → LeadsTo g s.parent s.child (name_bytes s.name)

-- that is right in the volume, where the image gives its bytes and the workspace holds what the
-- block check and the survey leave
pub record HoldsKeptParent (v : Layout) (contents : Option (List ℕ)) (w : Workspace) (s : KeptParent) : Type 0 where
  pub right : (b : List ℕ) → contents ≡ Some b → HoldsBlockCheck v b w → HoldsSurvey v b w
      → IsKeptParent (graph_of (volume_of v b)) s

-- the same places are noted
abbrev pub SamePlaces : Workspace → Workspace → Type 0
SamePlaces old new =
    (x : ℕ) → part_in (slice_index new.words.items x) ≡ part_in (slice_index old.words.items x)

-- paths can be made: the windows hold what the image gives, and what is kept of the parent is right
pub record CanMakePaths (v : Layout) (d : Device) (w : Workspace) (s : KeptParent) : Type 0 where
  pub ready : CanRead v d w
  pub kept_parent : HoldsKeptParent v d.contents w s

-- a path of the inode x can be made
pub record CanMakePath (v : Layout) (d : Device) (w : Workspace) (s : KeptParent) (x : ℕ) : Type 0 where
  pub ready : CanRead v d w
  pub kept_parent : HoldsKeptParent v d.contents w s
  pub number : x < v.ncg * v.ipg

-- a path of the directory `dir` can be made by that of its parent p, which the survey found
pub record CanKeepChild (v : Layout) (d : Device) (w : Workspace) (s : KeptParent) (p dir : ℕ) : Type 0 where
  pub ready : CanMakePath v d w s dir
  pub parent : IsParentOf w dir p

-- what a call leaves that makes so many reads at most for a path, where each place is noted; where
-- it failed, nothing is said here of what is kept of a parent (the clause `still` does)
pub record PathLeaves {T : Type 0} (v : Layout) (most : ℕ) (old new : WorkMoment) (s : KeptParent)
    (result : Result T ImageFault) : Type 0 where
  pub reads : OnlyReads v old.image new.image old.workspace new.workspace result
  pub counted : ReadsAtMost v most old new
  pub kept_parent : OnOk result (HoldsKeptParent v new.image.contents new.workspace s)

-- a call keeps the path of the directory `dir`, as that of the next one's parent
pub record StoresPathOf {T : Type 0} (v : Layout) (dir : ℕ) (old new : WorkMoment) (s : KeptParent)
    (result : Result T ImageFault) : Type 0 where
  -- `dir` is the parent that is kept
  pub parent : OnOk result (s.parent ≡ dir)
  -- and what is kept of it is right
  pub kept_parent : OnOk result (HoldsKeptParent v new.image.contents new.workspace s)
  -- it only reads: a read at most for each name of that path, and no more than the way up takes
  pub reads : ReadsNames v dir old new result

-- a moment of calls for one path after another: what is kept of a parent, too
pub record KeptMoment : Type 0 where
  pub at : WorkMoment
  pub kept : KeptParent

abbrev pub kept_moment : {I : Type 0} → Ghosts I → I → Workspace → KeptParent → KeptMoment
kept_moment I image w s = record { at = work_moment I image w; kept = s }

-- the path of the directory `dir` is kept: it is the parent, or the child
abbrev pub HasPathOf : KeptParent → (dir : ℕ) → Type 0
HasPathOf s dir = (s.parent ≡ dir) ⊎ (s.child ≡ dir)

-- a path of the directory `dir` makes, where each place is noted, a read at most for each of its names; one
-- where that of its parent is kept; and none where the window holds the part with its name, too
pub record SparesReads (v : Layout) (dir : ℕ) (old new : KeptMoment) : Type 0 where
  pub names : (b : List ℕ) → KnowsPlaces v old.at.image.contents old.at.workspace b
      → new.at.reads ≤ old.at.reads + names_to (graph_of (volume_of v b)) dir
  pub kept : (b : List ℕ) (p : ℕ) → KnowsPlaces v old.at.image.contents old.at.workspace b
      → IsParentOf old.at.workspace dir p → HasPathOf old.kept p → new.at.reads ≤ old.at.reads + 1
  pub again : (b : List ℕ) (p : ℕ) → KnowsPlaces v old.at.image.contents old.at.workspace b
      → IsParentOf old.at.workspace dir p → HasPathOf old.kept p → HoldsPlaceOf v old.at.workspace dir
      → new.at.reads ≤ old.at.reads

-- the path of the parent of the directory `dir` is kept then, and `dir` with it; where `dir` has no parent, what was
-- kept before
pub record StoresChild (w : Workspace) (dir : ℕ) (s s' : KeptParent) : Type 0 where
  pub parent : (p : ℕ) → IsParentOf w dir p → (s'.parent ≡ p) × (s'.child ≡ dir)
  pub same : ((p : ℕ) → IsParentOf w dir p → ⊥) → s' ≡ s

-- and the window holds the part of the place of `dir`, where it has a parent and each place is noted
abbrev pub HoldsPlaceThen : Layout → (dir : ℕ) → (old new : WorkMoment) → Type 0
HoldsPlaceThen v dir old new = (b : List ℕ) (p : ℕ) → KnowsPlaces v old.image.contents old.workspace b
    → IsParentOf old.workspace dir p → HoldsPlaceOf v new.workspace dir

-- what a call for the path of the directory `dir` costs, and what it leaves for the next one
pub record PathCosts {T : Type 0} (v : Layout) (dir : ℕ) (old new : KeptMoment) (result : Result T ImageFault) :
    Type 0 where
  -- it only reads, `path_reads` times at most where each place is noted, and what is kept of a parent is right
  pub leaves : PathLeaves v path_reads old.at new.at new.kept result
  -- at most a read for each name, one where the parent's path is kept, none where the window has the name, too
  pub spares : SparesReads v dir old new
  -- the path of that parent is kept then, and `dir` with it
  pub keeps : OnOk result (StoresChild old.at.workspace dir old.kept new.kept)
  -- and the window holds the part of the place of `dir`
  pub held : OnOk result (HoldsPlaceThen v dir old.at new.at)
