-- What is known of an image's bytes during the pathname check of a directory.
use Rattle.std.specs.Prelude.{◌≡◌, ℕ, true, IsTrue, List, Option}
use Rattle.ffs_image.specs.{Device.Device, Known.{ForBytes, IsContents}}
use Rattle.ffs_volume.specs.{declared.Layout.Layout, Blocks.Inodes.inode_of, Directories.{Graph.Graph, Naming.graph_of}}
use Rattle.ffs_volume.specs.{Directories.{Roles.is_dir, Volumes.volume_of}, Encodings.Places.PlacesAreNoted}
use Rattle.ffs_workspace.specs.{declared.workspace.Workspace.Workspace, Holds.{HoldsBlockCheck, HoldsSurvey}}
use Rattle.ffs_paths.specs.DirectoryPaths.{IsPathOf}
use Rattle.ffs_pathnames.specs.declared.{look.Directory.Directory, entry_texts.EntryTexts.EntryTexts}

-- the image gives these bytes, the workspace holds what the block check and the survey leave, and the
-- place of each directory that is reached; and x is a directory
pub record KnowsAtDirectory (v : Layout) (contents : Option (List ℕ)) (w : Workspace) (x : ℕ) (b : List ℕ) :
    Type 0 where
  pub gives_bytes : IsContents contents b
  pub block_check : HoldsBlockCheck v b w
  pub survey : HoldsSurvey v b w
  pub noted : PlacesAreNoted v b w.words.items
  pub dir : is_dir (volume_of v b) x ≡ true

-- the path of a directory, where it is settled, is that of `dir`
abbrev pub BeginsPathOf : Graph → ℕ → EntryTexts → Type 0
BeginsPathOf g dir t = IsTrue t.path_settled → IsPathOf g dir t.paths.directory

-- the bytes are those of KnowsAtDirectory, and the path that is settled, if any, is that of the directory `dir`
pub record KnowsPath (v : Layout) (contents : Option (List ℕ)) (w : Workspace) (dir : ℕ) (t : EntryTexts)
    (b : List ℕ) : Type 0 where
  pub knows : KnowsAtDirectory v contents w dir b
  pub path : BeginsPathOf (graph_of (volume_of v b)) dir t

-- after a call the path that is settled, if any, still is that of `dir`
abbrev pub KeepsPath : Layout → Device → Workspace → (dir : ℕ) → (old new : EntryTexts) → Type 0
KeepsPath v d w dir old new =
    ForBytes (KnowsPath v d.contents w dir old) (λ b. BeginsPathOf (graph_of (volume_of v b)) dir new)

-- the bytes are those of KnowsAtDirectory, and the inode that was read is that of the directory
abbrev pub KnowsDirectory : Layout → Device → Workspace → Directory → List ℕ → Type 0
KnowsDirectory v d w directory b =
    KnowsAtDirectory v d.contents w directory.number b × (directory.inode ≡ inode_of v b directory.number)
