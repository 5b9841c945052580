-- A directory of which nothing can be reported, by what a survey sees where it reads it.
use Rattle.std.specs.Prelude.{◌≡◌, ◌≢◌, ◌<◌, All, get_or, ℕ, ◌==◌, Bool, true, ◌&&◌, ◌||◌, nat_lt, List, length}
use Rattle.std.specs.List.{list_any}
use Rattle.ffs_volume.specs.{Directories.{Roles.RoledEntry, Graph.is_naming_entry}, Encodings.Kinds.is_dir_at}
use Rattle.ffs_volume.specs.Costs.Calm.{are_calm, is_elsewhere, is_calm_by_parents, CurrentDir}
use Rattle.ffs_survey.specs.Survey.{bool_at, number_at}

-- the directory d, by the kinds, the marks and the parents of all inodes
abbrev pub dir_by : List ℕ → List Bool → List ℕ → ℕ → CurrentDir
dir_by kinds marked parents d = record { kinds = kinds; marked = marked; dir = d; parent = number_at parents d }

-- The directory s is calm: its shape is right, and so are its entries, by what was reached before
-- it. It is reached, and each directory that it names is reached from it.
pub record IsCalm (s : CurrentDir) (reached : List Bool) (parents : List ℕ) (entries : List RoledEntry)
    (right_shape : Bool) : Type 0 where
  pub before : ℕ → Bool
  pub begins : before s.dir ≡ true
  pub entries_right : are_calm s before 0 entries ≡ true
  pub shape_right : right_shape ≡ true
  pub is_reached : bool_at reached s.dir ≡ true
  pub below : (x : ℕ) → is_dir_at s.kinds x ≡ true → list_any (is_naming_entry x) entries ≡ true
      → (bool_at reached x ≡ true) × (number_at parents x ≡ s.dir)

-- all directories with a flag are calm
abbrev pub AreCalm : List ℕ → (marked reached : List Bool) → List ℕ → (ℕ → List RoledEntry) → (ℕ → Bool) → List Bool →
    Type 0
AreCalm kinds marked reached parents entries right_shape calm =
    (d : ℕ) → bool_at calm d ≡ true
    → IsCalm (dir_by kinds marked parents d) reached parents (entries d) (right_shape d)

-- the flag of d is set where all its entries are calm and its shape is right, and no other flag changes
abbrev pub IsFlagged : ℕ → (all_calm right_shape : Bool) → (old new : List Bool) → Type 0
IsFlagged d all_calm right_shape old new =
    (x : ℕ) → bool_at new x ≡ (bool_at old x || ((x == d) && (nat_lt d (length old) && (all_calm && right_shape))))

-- each reached directory that is calm by the parents of what it names has a flag
abbrev pub EachCalmIsFlagged : List ℕ → (marked reached : List Bool) → List ℕ → (ℕ → List RoledEntry) → (ℕ → Bool) →
    List Bool → Type 0
EachCalmIsFlagged kinds marked reached parents entries right_shape calm =
    (d : ℕ) → is_dir_at kinds d ≡ true → bool_at reached d ≡ true
    → is_calm_by_parents kinds marked (number_at parents) (entries d) (right_shape d) d ≡ true → bool_at calm d ≡ true

-- no child of the directory d is reached
abbrev pub IsUnread : List Bool → List ℕ → ℕ → Type 0
IsUnread reached parents d = (x : ℕ) → bool_at reached x ≡ true → is_elsewhere (number_at parents) d x ≡ true

-- none of these directories is read, and none is in the list twice
pub record AreUnread (reached : List Bool) (parents : List ℕ) (dirs : List ℕ) : Type 0 where
  pub each : All (IsUnread reached parents) dirs
  pub once : (i j e : ℕ) → i < j → j < length dirs → get_or dirs i e ≢ get_or dirs j e

-- The reached directory s was read when no child of it was reached. It has a flag, if its entries are calm
-- by what was reached then, and its shape is right
pub record IsReadOnce (s : CurrentDir) (reached : List Bool) (parents : List ℕ) (entries : List RoledEntry)
    (right_shape : Bool) (calm : List Bool) : Type 0 where
  pub before : ℕ → Bool
  pub elsewhere : (x : ℕ) → before x ≡ true → is_elsewhere (number_at parents) s.dir x ≡ true
  pub known : (x : ℕ) → before x ≡ true → bool_at reached x ≡ true
  pub is_reached : bool_at reached s.dir ≡ true
  pub flagged : are_calm s before 0 entries ≡ true → right_shape ≡ true → bool_at calm s.dir ≡ true
