-- What a call that only reads the image leaves of a workspace, and how often it reads.
use Rattle.std.specs.Prelude.{◌≡◌, suc, ◌+◌, ◌-◌, ◌*◌, ◌/◌, ◌<◌, ◌≤◌, ℕ, min, List, length, Option, Result, Some, OnOk}
use Rattle.std.specs.{Prelude.{slice_index, true}, Option.unwrap_or}
use Rattle.ffs_image.specs.{Device.{Device, ForContents}, Known.IsContents, Reads.{ReadAfter, ReadsAtMostOnce}}
use Rattle.ffs_image.specs.declared.image.ImageFault.{ImageFault}
use Rattle.ffs_volume.specs.{declared.{constants.TheConstants.MAXPATHLEN, Layout.Layout}, Directories.Graph.Graph}
use Rattle.ffs_volume.specs.Directories.{Graph.level, Naming.graph_of, Paths.{longest_end, names_down}}
use Rattle.ffs_volume.specs.{Directories.Volumes.volume_of, Encodings.Places.{PlacesAreNoted, PlaceIsNoted, part_size, part_in}}
use Rattle.ffs_volume.specs.Costs.DirectoryReads.{directory_cost}
use Rattle.ffs_workspace.specs.{declared.workspace.Workspace.Workspace, Found.WithSurvey, Moments.WorkMoment}
use Rattle.ffs_workspace.specs.{Ready.CanRead, Holds.{bool_at, HoldsBlockCheck, HoldsSurvey}}

-- the inode x can be read: the windows hold what the image gives, and its number is one of the volume
pub record CanReadFor (v : Layout) (d : Device) (w : Workspace) (x : ℕ) : Type 0 where
  pub ready : CanRead v d w
  pub number : x < v.ncg * v.ipg

-- the same, and the directory `dir` is reached
pub record CanClimb (v : Layout) (d : Device) (w : Workspace) (dir : ℕ) : Type 0 where
  pub ready : CanRead v d w
  pub number : dir < v.ncg * v.ipg
  pub reached : bool_at w.reached.items dir ≡ true

-- all of the workspace but its windows is as it was, and so is the window of the current directory;
-- the windows hold what the image gives
pub record OnlyReads {T : Type 0} (v : Layout) (old new : Device) (before after : Workspace)
    (result : Result T ImageFault) : Type 0 where
  pub lists : after ≡ record before { windows = after.windows }
  pub current : after.windows.current ≡ before.windows.current
  pub ready : CanRead v new after
  pub read : ReadAfter old new result

-- P holds of the graph of the volume's directories, where the image gives its bytes, and the
-- workspace holds what the block check and the survey leave
abbrev pub ForTree : Layout → Device → Workspace → (Graph → Type 0) → Type 0
ForTree v d w P = (b : List ℕ) → d.contents ≡ Some b → HoldsBlockCheck v b w → HoldsSurvey v b w
    → P (graph_of (volume_of v b))

-- so many reads were made at most, and none into the window of indirect blocks
pub record ReadsFew (most reads reads' : ℕ) (before after : Workspace) : Type 0 where
  pub count : reads' ≤ reads + most
  pub blocks : after.windows.blocks ≡ before.windows.blocks

-- a call that makes so many reads at most leaves all of the workspace but its windows
pub record OnlyReadsFew {T : Type 0} (v : Layout) (most : ℕ) (old new : WorkMoment) (result : Result T ImageFault) :
    Type 0 where
  pub reads : OnlyReads v old.image new.image old.workspace new.workspace result
  pub counted : ReadsFew most old.reads new.reads old.workspace new.workspace

-- the window of other directories holds the part that is noted as the place of the directory `dir`, if one is noted
abbrev pub HoldsPlaceOf : Layout → Workspace → (dir : ℕ) → Type 0
HoldsPlaceOf v w dir = (k : ℕ) → part_in (slice_index w.words.items dir) ≡ suc k
    → (w.windows.other.place ≡ part_size v * k) × (w.windows.other.length ≡ part_size v)

-- the part with the place of `dir` is read once at most, and not where the window holds it; then it holds it
pub record ReadsPartOf {T : Type 0} (v : Layout) (dir : ℕ) (old new : WorkMoment) (result : Result T ImageFault) :
    Type 0 where
  pub few : ReadsFew 1 old.reads new.reads old.workspace new.workspace
  pub again : HoldsPlaceOf v old.workspace dir → new.reads ≤ old.reads
  pub held : OnOk result (HoldsPlaceOf v new.workspace dir)

-- a call for the place of `dir` makes one read at most, and none where the window holds its part; where the
-- place is one, the window holds it then
pub record ReadsPlace {T : Type 0} (v : Layout) (dir : ℕ) (old new : WorkMoment) (result : Result T ImageFault) :
    Type 0 where
  pub reads : OnlyReads v old.image new.image old.workspace new.workspace result
  pub counted : ReadsFew 1 old.reads new.reads old.workspace new.workspace
  pub again : HoldsPlaceOf v old.workspace dir → new.reads ≤ old.reads
  pub held : ForContents old.image.contents
      (λ b. PlaceIsNoted v b old.workspace.words.items dir → OnOk result (HoldsPlaceOf v new.workspace dir))

-- an image was asked for the part that is noted as the place of `dir`, once at most, and for nothing else
abbrev pub AsksForPlace : {I : Type 0} → (was_read : I → ℕ → ℕ → I → Type 0) → Layout → Workspace → (dir : ℕ)
    → (old new : I) → Type 0
AsksForPlace was_read v w dir old new = ReadsAtMostOnce was_read
    (part_size v * (part_in (slice_index w.words.items dir) - 1)) (part_size v) old new

-- a call for the name of the directory `dir` reads the part of its place alone, where that is noted
pub record ReadsName {T : Type 0} (v : Layout) (dir : ℕ) (old new : WorkMoment) (result : Result T ImageFault) :
    Type 0 where
  pub reads : OnlyReads v old.image new.image old.workspace new.workspace result
  pub counted : ForContents old.image.contents
      (λ b. PlaceIsNoted v b old.workspace.words.items dir → ReadsPartOf v dir old new result)

-- the image gives these bytes, the workspace holds what the block check and the survey leave, and
-- it notes the place of each directory that is reached
pub record KnowsPlaces (v : Layout) (contents : Option (List ℕ)) (w : Workspace) (b : List ℕ) : Type 0 where
  pub gives_bytes : IsContents contents b
  pub block_check : HoldsBlockCheck v b w
  pub survey : HoldsSurvey v b w
  pub noted : PlacesAreNoted v b w.words.items

-- so many reads were made at most, where each place is noted
abbrev pub ReadsAtMost : Layout → (most : ℕ) → (old new : WorkMoment) → Type 0
ReadsAtMost v most old new = (b : List ℕ) → KnowsPlaces v old.image.contents old.workspace b
    → ReadsFew most old.reads new.reads old.workspace new.workspace

-- how many names lead down to the directory `dir`, none where it isn't reached
abbrev pub names_to : Graph → ℕ → ℕ
names_to g dir = unwrap_or (level g dir) 0

-- how many of them a path of it takes: all, or, where it is cut, those that have room, and the first that has none
abbrev pub names_read : Graph → ℕ → ℕ
names_read g dir = min (names_to g dir) (suc (length (longest_end MAXPATHLEN (names_down g (names_to g dir) dir))))

-- the way up to the root: a read for each name that has room in a path, and one for one that has
-- none any more. Each name takes two bytes at least, with its slash
abbrev pub climb_reads : ℕ
climb_reads = MAXPATHLEN / 2 + 1

-- no directory takes more than n reads, in a volume of these bytes
abbrev pub EachTakesAtMost : (n : ℕ) → Layout → List ℕ → Type 0
EachTakesAtMost n v b = (dir : ℕ) → directory_cost v b dir ≤ n

-- a call for the path of the directory `dir` leaves all of the workspace but its windows. Where each place is
-- noted, it makes a read at most for each name of that path, up to the first that has no room, and no more than
-- the way up takes. Where some aren't, for each name it may read all of the directory that has it, too
pub record ReadsNames {T : Type 0} (v : Layout) (dir : ℕ) (old new : WorkMoment) (result : Result T ImageFault) :
    Type 0 where
  pub reads : OnlyReads v old.image new.image old.workspace new.workspace result
  pub counted : ReadsAtMost v climb_reads old new
  pub names : (b : List ℕ) → KnowsPlaces v old.image.contents old.workspace b
      → new.reads ≤ old.reads + names_read (graph_of (volume_of v b)) dir
  pub searched : (b : List ℕ) (n : ℕ) → WithSurvey v old.image old.workspace b → EachTakesAtMost n v b
      → new.reads ≤ old.reads + names_read (graph_of (volume_of v b)) dir * (1 + n)
