-- What the lists of a workspace show of a volume.
use Rattle.std.specs.Prelude.{◌≡◌, ℕ, Bool, List, ◌<◌, ◌≤◌, ◌/◌, ◌==◌, true, false, not, length, slice_index, ◌^◌}
use Rattle.std.specs.{Prelude.vec_len, List.slice_index_or}
use Rattle.ffs_volume.specs.Directories.{Entries.Entry, PathnameCheck.{is_silent, verdict_on}}
use Rattle.ffs_volume.specs.{Blocks.Inodes.{is_allocated, is_unknown}, Encodings.Kinds.{class_of_kind, is_dir_kind}}
use Rattle.ffs_volume.specs.Encodings.Kinds.{is_allocated_kind, is_unknown_kind, type_of_kind}
use Rattle.ffs_volume.specs.Directories.{Roles.{Volume, is_dir, is_suspect}, Climb.is_value, Graph.parent}
use Rattle.ffs_volume.specs.Directories.Naming.{graph_of}
use Rattle.ffs_workspace.specs.{Holds.bool_at, declared.workspace.Workspace.Workspace}
use Rattle.ffs_survey.specs.Survey.{suspect_at}
use Rattle.ffs_pathnames.specs.{declared.inodes.Inodes.Inodes, PassedNames.PassedNames, Stamps.stamps_of}

-- what a workspace remembers of the names that were passed, during the pathname check
abbrev pub passed_of : Workspace → PassedNames
passed_of w = record { flags = w.flags.items; stamps = stamps_of w.parents.items w.words.items }

-- the lists that say something of each inode are as long as one another
pub record HasInodeLists (w : Workspace) : Type 0 where
  pub marked : vec_len w.marked ≡ vec_len w.kinds
  pub parents : vec_len w.parents ≡ vec_len w.kinds
  pub flags : vec_len w.flags ≡ vec_len w.kinds
  pub words : vec_len w.words ≡ vec_len w.kinds
  pub few : vec_len w.kinds < 2 ^ 31

-- these lists show of each inode of the volume its kind, whether it is marked, and its parent
pub record Sees (vol : Volume) (i : Inodes) : Type 0 where
  pub count : vol.count ≡ length i.kinds.now
  pub dir : (x : ℕ) → is_dir vol x ≡ is_dir_kind (slice_index i.kinds.now x)
  pub allocated : (x : ℕ) → is_allocated (vol.class x) ≡ is_allocated_kind (slice_index i.kinds.now x)
  pub unknown : (x : ℕ) → is_unknown (vol.class x) ≡ is_unknown_kind (slice_index i.kinds.now x)
  pub suspect : (x : ℕ) → is_suspect vol x ≡ suspect_at i.kinds.now i.marked.now.items x
  pub marked : (x : ℕ) → vol.marked x ≡ bool_at i.marked.now.items x
  pub kind : (x : ℕ) → is_allocated (vol.class x) ≡ true → is_unknown (vol.class x) ≡ false
      → type_of_kind (slice_index i.kinds.now x) ≡ (vol.inode x).mode / 4096
  pub class : (x : ℕ) → is_allocated (vol.class x) ≡ true → vol.class x ≡ class_of_kind (slice_index i.kinds.now x)
  pub parent_is : (x p : ℕ) → 2 ≤ p → is_value (parent (graph_of vol) x) p ≡ (slice_index i.parents.now.items x == p)

-- the stamps by these words, and the names that were passed by these flags and words
abbrev pub stamps_in : Inodes → (words : List ℕ) → List ℕ
stamps_in i words = stamps_of i.parents.now.items words

abbrev pub passed_in : Inodes → List Bool → (words : List ℕ) → PassedNames
passed_in i flags words = record { flags = flags; stamps = stamps_in i words }

-- by these flags nothing is reported of the plain entry e, in whichever directory it is
abbrev pub IsHarmless : Inodes → (flags : List Bool) → Entry → Type 0
IsHarmless i flags e = (vol : Volume) → Sees vol i → (parent_entry : Bool)
    → is_silent (verdict_on vol (not (slice_index_or flags e.number false)) parent_entry e) ≡ true

-- each inode has a flag and a word
pub record HasFlagAndWord (i : Inodes) (flags : List Bool) (words : List ℕ) : Type 0 where
  pub flags_long : length flags ≡ length i.kinds.now
  pub words_long : length words ≡ length i.kinds.now

-- each inode has a word, and the inode x is one of them
pub record HasWordOf (i : Inodes) (x : ℕ) (words : List ℕ) : Type 0 where
  pub inode : x < length i.kinds.now
  pub each : length words ≡ length i.kinds.now

-- each inode has a word, and the directory x that stamps is the root or one after it
pub record CanStamp (i : Inodes) (x : ℕ) (words : List ℕ) : Type 0 where
  pub each : length words ≡ length i.kinds.now
  pub dir : 2 ≤ x

-- each inode has a flag and a word, and the directory that stamps is the root or one after it
pub record CanLook (i : Inodes) (dir : ℕ) (flags : List Bool) (words : List ℕ) : Type 0 where
  pub flags_long : length flags ≡ length i.kinds.now
  pub stamp : CanStamp i dir words
