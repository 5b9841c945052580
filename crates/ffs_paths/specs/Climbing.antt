-- What a climb to the root reads, and the path that it gives.
use Rattle.std.specs.Prelude.{◌≡◌, ◌<◌, ℕ, nat_lt, true, if◌then◌else◌, List, [], ◌∷◌, length, Option, Some, None, Bool}
use Rattle.std.specs.{Prelude.{vec_len, slice_index}, List.list_any}
use Rattle.ffs_image.specs.Device.{Device, ForContents}
use Rattle.ffs_volume.specs.Directories.{Graph.{Graph, is_naming_entry, parent}, Paths.{dir_path, entry_path}}
use Rattle.ffs_volume.specs.{declared.{Layout.Layout, constants.TheConstants.MAXPATHLEN}, Directories.Roles.RoledEntry}
use Rattle.ffs_workspace.specs.{declared.workspace.Workspace.Workspace, Holds.bool_at}
use Rattle.ffs_volume.specs.Encodings.Places.{PlaceIsNoted}
use Rattle.ffs_paths.specs.Reads.{ForTree}
pub use Rattle.ffs_volume.specs.Encodings.Places.{name_in}

-- this is the name of the directory `dir` in its parent p: that of the first plain entry there that names
-- it, if there is one
abbrev pub IsNameIn : Graph → (dir p : ℕ) → List ℕ → Type 0
IsNameIn g dir p name = parent g dir ≡ Some p → g.is_dir p ≡ true → name ≡ name_in dir (g.entries p)

-- the answer is whether an entry names the inode x. The text is then the name of the first one that does, and isn't
-- empty
pub record FindsFirstName (x : ℕ) (entries : List RoledEntry) (text : List ℕ) (result : Bool) : Type 0 where
  pub name : result ≡ true → text ≡ name_in x entries
  pub some : result ≡ true → 0 < length text
  pub found : list_any (is_naming_entry x) entries ≡ true → result ≡ true

-- the answer is whether the directory `dir` is named where its place is noted. The text is then its name in its parent
pub record FindsNoted (v : Layout) (d : Device) (w : Workspace) (dir : ℕ) (text : List ℕ) (result : Bool) : Type 0 where
  pub name : result ≡ true → ForTree v d w (λ g. (p : ℕ) → IsNameIn g dir p text)
  pub some : result ≡ true → 0 < length text
  pub found : ForContents d.contents (λ b. PlaceIsNoted v b w.words.items dir → result ≡ true)

-- the text is the name of the directory `dir` in its parent p, and isn't empty where its place is noted
pub record FindsName (v : Layout) (d : Device) (w : Workspace) (dir p : ℕ) (text : List ℕ) : Type 0 where
  pub name : ForTree v d w (λ g. IsNameIn g dir p text)
  pub some : ForContents d.contents (λ b. PlaceIsNoted v b w.words.items dir → 0 < length text)

-- the survey found this parent of a directory that is reached and isn't the root
pub record IsParentOf (w : Workspace) (dir parent : ℕ) : Type 0 where
  pub below : 2 < dir
  pub reached : bool_at w.reached.items dir ≡ true
  pub is : parent ≡ slice_index w.parents.items dir
  pub some : 0 < parent
  pub inside : parent < vec_len w.parents

-- a path of more than 1,024 bytes becomes `?`. Only `?/NAME` can be so long: an entry of an unreached
-- directory whose name has more than 1,022 bytes (none in a real chunk; the contract takes any name).
abbrev pub in_room : List ℕ → List ℕ
in_room path = if nat_lt MAXPATHLEN (length path) then 63 ∷ [] else path

-- the path of a directory, or of an entry of it
abbrev pub path_in : Graph → ℕ → Option (List ℕ) → List ℕ
path_in g dir None = dir_path g dir
path_in g dir (Some name) = in_room (entry_path g dir name)
