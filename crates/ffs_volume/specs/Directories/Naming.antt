-- The graph of a volume (`graph_of`), and which entry is the first of all plain ones to name an
-- inode, or is its parent entry. The record `Graph` and what it gives, such as `level` and
-- `parent`, are in `Graph`.
use Rattle.std.specs.Prelude.{ℕ, zero, suc, Bool, ◌&&◌, List, [], ◌∷◌, Option, Some, None}
use Rattle.ffs_volume.specs.{Directories.Roles.{Volume, RoledEntry, is_dir, roled_entries}, Disk.Search.first_below}
use Rattle.ffs_volume.specs.Directories.Climb.{is_value}
use Rattle.ffs_volume.specs.Directories.Graph.{
  Graph,
  is_naming_entry,
  is_naming_dir,
  parent,
  parent_entry_index,
  first_index,
}

-- the directories of a volume as a graph
abbrev pub graph_of : Volume → Graph
graph_of vol = record { count = vol.count; is_dir = is_dir vol; entries = roled_entries vol }

-- the entry at an index of a list, with its role, if there is one
abbrev pub nth_roled : List RoledEntry → ℕ → Option RoledEntry
nth_roled [] j = None
nth_roled (e ∷ es) zero = Some e
nth_roled (e ∷ es) (suc j) = nth_roled es j

-- the directory with the first of all plain entries that name x
abbrev pub first_naming_dir : Graph → ℕ → Option ℕ
first_naming_dir g x = first_below (λ s. is_naming_dir g s x) g.count

-- the entry at index j of s is the first of all plain entries that name x
abbrev pub is_first_naming_entry : (g : Graph) (s j x : ℕ) → Bool
is_first_naming_entry g s j x = is_value (first_naming_dir g x) s
    && is_value (first_index (is_naming_entry x) (g.entries s)) j

-- the entry at index j of s is the parent entry of x
abbrev pub is_parent_entry : (g : Graph) (s j x : ℕ) → Bool
is_parent_entry g s j x = is_value (parent g x) s && is_value (parent_entry_index g x) j
