-- Levels and parents of the directories of a volume, read as a graph, which `Naming` makes of it
-- (`graph_of`). Only plain entries count. A plain entry names the number that it carries
-- (`is_naming_entry`; by its index `is_naming_entry_at`), and its directory names it too
-- (`is_naming_dir`). A number is named where some directory names it (`is_named`).
use Rattle.std.specs.Prelude.{ℕ, zero, suc, ◌==◌, Bool, false, ◌&&◌, ◌||◌, List, Option, None, Some}
use Rattle.std.specs.{Prelude.{is_some, cond, [], ◌∷◌, option_map, if◌then◌else◌}, List.list_any}
use Rattle.ffs_volume.specs.{declared.constants.TheConstants.ROOTINO, Directories.Roles.{RoledEntry, is_plain}}
use Rattle.ffs_volume.specs.{Disk.Search.{first_below, some_below}, Directories.Climb.is_value}

-- what levels and parents depend on: the number of inodes, which of them are directories, and the
-- entries of each directory in order
pub record Graph : Type 0 where
  pub count : ℕ
  pub is_dir : ℕ → Bool
  pub entries : ℕ → List RoledEntry

-- the entry is a plain one, and names d
abbrev pub is_naming_entry : ℕ → RoledEntry → Bool
is_naming_entry d e = is_plain e.role && (e.entry.number == d)

-- the directory s has a plain entry that names x
abbrev pub is_naming_dir : (g : Graph) (s x : ℕ) → Bool
is_naming_dir g s x = g.is_dir s && list_any (is_naming_entry x) (g.entries s)

-- an edge from s to d: a plain entry of s that names a directory d
abbrev pub edge : (g : Graph) (s d : ℕ) → Bool
edge g s d = g.is_dir d && is_naming_dir g s d

-- d is at most k edges from inode 2
unfoldable pub within : (g : Graph) (k d : ℕ) → Bool
within g zero d = d == ROOTINO
within g (suc k) d = within g k d || some_below (λ s. within g k s && edge g s d) g.count

-- the least number of edges from inode 2, if d is reached. A shortest path visits no inode twice,
-- so it has fewer edges than there are inodes
unfoldable pub level : Graph → ℕ → Option ℕ
level g d = first_below (λ k. within g k d) g.count

-- d has a level
abbrev pub reached : Graph → ℕ → Bool
reached g d = is_some (level g d)

-- s is a directory of level k with an edge to x
abbrev pub level_edge : (g : Graph) (k s x : ℕ) → Bool
level_edge g k s x = is_value (level g s) k && edge g s x

-- the parent of a directory other than the root. Of one with a level it is the least directory one
-- level above that has an edge to it; of one without, the least directory that has one
abbrev pub parent_by : (g : Graph) (d : ℕ) → Option ℕ → Option ℕ
parent_by g d None = first_below (λ s. edge g s d) g.count
parent_by g d (Some zero) = None
parent_by g d (Some (suc k)) = first_below (λ s. level_edge g k s d) g.count

-- the parent of a directory, by entries and not by its `..`; the root is its own parent
unfoldable pub parent : Graph → ℕ → Option ℕ
parent g d = if d == ROOTINO then Some ROOTINO else parent_by g d (level g d)

-- the index of the first entry that passes
abbrev pub first_index : (RoledEntry → Bool) → List RoledEntry → Option ℕ
first_index p [] = None
first_index p (e ∷ es) = cond (p e) (Some 0) (option_map suc (first_index p es))

-- the index, in a directory, of the first plain entry that names d
abbrev pub index_in_parent : (g : Graph) (d : ℕ) → Option ℕ → Option ℕ
index_in_parent g d None = None
index_in_parent g d (Some s) = first_index (is_naming_entry d) (g.entries s)

-- the index, in the parent of d, of the first plain entry that names d: its parent entry. The root
-- has none
abbrev pub parent_entry_index : Graph → ℕ → Option ℕ
parent_entry_index g d = if d == ROOTINO then None else index_in_parent g d (parent g d)

-- some plain entry names x
abbrev pub is_named : Graph → ℕ → Bool
is_named g x = some_below (λ s. is_naming_dir g s x) g.count

-- there is an entry at index j, and it passes
abbrev pub test_at : (RoledEntry → Bool) → ℕ → List RoledEntry → Bool
test_at p j [] = false
test_at p zero (e ∷ es) = p e
test_at p (suc j) (e ∷ es) = test_at p j es

-- the entry at index j of the directory s is a plain one that names x
abbrev pub is_naming_entry_at : (g : Graph) (s j x : ℕ) → Bool
is_naming_entry_at g s j x = g.is_dir s && test_at (is_naming_entry x) j (g.entries s)
