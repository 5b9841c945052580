-- Directories of which nothing is reported, whatever is reported of others.
use Rattle.std.specs.Prelude.{◌≡◌, ℕ, ◌<◌, ◌==◌, Bool, true, false, List, [], slice_index}
use Rattle.ffs_volume.specs.Directories.{Roles.{Volume, roled_entries}, PathnameCheck.dir_header_lines}
use Rattle.ffs_pathnames.specs.PassedNames.{are_quiet}

-- nothing is reported before the entries of x, and nothing of these, whatever is flagged, where no inode
-- is stamped by x yet
pub record IsSilentDirectory (vol : Volume) (x : ℕ) : Type 0 where
  pub starts : dir_header_lines vol x ≡ []
  pub entries : (flags : List Bool) (stamps : List ℕ) → ((y : ℕ) → y < vol.count → (slice_index stamps y == x) ≡ false)
      → are_quiet vol x flags stamps (roled_entries vol x) ≡ true
