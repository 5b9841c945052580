-- The certificate of the checks of directories.
use Rattle.std.specs.Prelude.{◌≡◌, ◌↔◌, []}
use Rattle.ffs_volume.specs.Directories.{Roles.Volume, PathnameCheck.pathname_lines, Connectivity.connectivity_lines}
use Rattle.ffs_volume.specs.{Directories.ReferenceCheck.reference_lines, Consistent.DirectoriesRight.AreDirsRight}
use Rattle.ffs_volume.specs.Consistent.DirectoriesRight.{AreLinksRight, AreCountsRight}
use Rattle.ffs_certificate.specs.Premises.{IsVolume, IsUnmarked}

-- the checks of pathnames, of connectivity and of reference counts report nothing
pub record IsSilent (vol : Volume) : Type 0 where
  pub pathnames : pathname_lines vol ≡ []
  pub connectivity : connectivity_lines vol ≡ []
  pub references : reference_lines vol ≡ []

-- the conditions on directories, on links and on counts of references hold
pub record AreDirectoriesRight (vol : Volume) : Type 0 where
  pub dirs : AreDirsRight vol
  pub links : AreLinksRight vol
  pub counts : AreCountsRight vol

-- with no inode marked, the three checks are silent exactly where the three conditions hold
abbrev pub SilentIsRight : Type 0
SilentIsRight = (vol : Volume) → IsVolume vol → IsUnmarked vol → IsSilent vol ↔ AreDirectoriesRight vol
