-- What the pathname check remembers of the names that it has passed is right.
use Rattle.std.specs.{Prelude.{◌≡◌, ◌≢◌, ℕ, ◌<◌, true, not, ◌&&◌, ◌||◌, List, length, slice_index}, List.list_any}
use Rattle.ffs_volume.specs.{declared.constants.TheConstants.{WINO, ROOTINO}, Disk.Search.some_below}
use Rattle.ffs_volume.specs.Directories.{Graph.{is_naming_entry, is_naming_dir}, Roles.{Volume, RoledEntry, is_suspect}}
use Rattle.ffs_volume.specs.Directories.Naming.{graph_of}
use Rattle.ffs_pathnames.specs.{Silent.IsSilentDirectory, PassedNames.{PassedNames, is_flagged, is_flagged_calm, is_stamped}}
use Rattle.ffs_pathnames.specs.PassedNames.{belongs}

-- what is remembered is right within the directory `dir`, after its entries `done`
pub record RemembersWithin (vol : Volume) (dir : ℕ) (done : List RoledEntry) (m : PassedNames) : Type 0 where
  pub named : (x : ℕ) → x < vol.count → is_suspect vol x ≡ true → x ≢ WINO → x ≢ ROOTINO →
      is_flagged m x ≡ (some_below (λ t. is_naming_dir (graph_of vol) t x) dir || list_any (is_naming_entry x) done)
  pub due : (x : ℕ) → x < vol.count → is_stamped dir m x
      ≡ (belongs vol dir x && not (list_any (is_naming_entry x) done))
  pub flags_length : length m.flags ≡ vol.count
  pub stamps_length : length m.stamps ≡ vol.count

-- what is remembered is right between directories, before `dir`
pub record RemembersBefore (vol : Volume) (dir : ℕ) (m : PassedNames) : Type 0 where
  pub named : (x : ℕ) → x < vol.count → is_suspect vol x ≡ true → x ≢ WINO → x ≢ ROOTINO
      → is_flagged m x ≡ some_below (λ t. is_naming_dir (graph_of vol) t x) dir
  pub stamps : (x : ℕ) → x < vol.count → slice_index m.stamps x < dir
  pub flags_length : length m.flags ≡ vol.count
  pub stamps_length : length m.stamps ≡ vol.count
  pub calm : (x : ℕ) → is_flagged_calm vol m x ≡ true → IsSilentDirectory vol x
