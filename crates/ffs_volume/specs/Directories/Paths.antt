-- Paths of directories and of their entries, in bytes: 47 is `/`, and 63 is `?`.
use Rattle.std.specs.Prelude.{ℕ, zero, suc, ◌-◌, nat_le, nat_lt, if◌then◌else◌, List, [], ◌∷◌, ◌++◌, length, Option}
use Rattle.std.specs.{Prelude.{Some, None, option_map, option_and_then}, List.flat_map}
use Rattle.ffs_volume.specs.{declared.constants.TheConstants.MAXPATHLEN, Directories.{Roles.RoledEntry, Graph.Graph}}
use Rattle.ffs_volume.specs.Directories.{Graph.{level, parent, parent_entry_index}, Naming.nth_roled}

-- names, each after a `/`
abbrev pub joined : List (List ℕ) → List ℕ
joined names = flat_map (λ name. 47 ∷ name) names

-- the last of the names, as many as fit in `most` bytes
unfoldable pub longest_end : ℕ → List (List ℕ) → List (List ℕ)
longest_end most [] = []
longest_end most (name ∷ names) =
    if nat_le (length (joined (name ∷ names))) most then name ∷ names else longest_end most names

-- the path of these names; one of more than 1,024 bytes is cut to `?` and its last names
unfoldable pub path_bytes : List (List ℕ) → List ℕ
path_bytes names =
    if nat_lt MAXPATHLEN (length (joined names)) then 63 ∷ joined (longest_end (MAXPATHLEN - 1) names)
    else joined names

-- the name of an entry; empty where there is none
abbrev pub name_of : Option RoledEntry → List ℕ
name_of None = []
name_of (Some e) = e.entry.name

-- the names down to a directory by its parent: those of the parent, which `above` gives, and that
-- of the parent entry
abbrev pub names_by_parent : (g : Graph) (above : ℕ → List (List ℕ)) (d : ℕ) → Option ℕ → List (List ℕ)
names_by_parent g above d None = []
names_by_parent g above d (Some p) =
    above p ++ name_of (option_and_then (nth_roled (g.entries p)) (parent_entry_index g d)) ∷ []

-- the names from the root down to a directory that is k edges below
unfoldable pub names_down : (g : Graph) (k d : ℕ) → List (List ℕ)
names_down g zero d = []
names_down g (suc k) d = names_by_parent g (names_down g k) d (parent g d)

-- the names from the root down, if the directory is reached
abbrev pub path_names : Graph → ℕ → Option (List (List ℕ))
path_names g d = option_map (λ k. names_down g k d) (level g d)

-- the path of a directory by its names: `?` where it isn't reached
abbrev pub dir_path_of_names : Option (List (List ℕ)) → List ℕ
dir_path_of_names None = 63 ∷ []
dir_path_of_names (Some []) = 47 ∷ []
dir_path_of_names (Some (name ∷ names)) = path_bytes (name ∷ names)

-- the path of an entry by its name and the names of its directory
abbrev pub entry_path_of_names : List ℕ → Option (List (List ℕ)) → List ℕ
entry_path_of_names name None = 63 ∷ 47 ∷ name
entry_path_of_names name (Some names) = path_bytes (names ++ name ∷ [])

-- the path of a directory
unfoldable pub dir_path : Graph → ℕ → List ℕ
dir_path g d = dir_path_of_names (path_names g d)

-- the path of an entry of a directory, by the name of the entry
unfoldable pub entry_path : (g : Graph) (d : ℕ) (name : List ℕ) → List ℕ
entry_path g d name = entry_path_of_names name (path_names g d)
