-- What the paths of all entries of a directory begin with.
use Rattle.std.specs.Prelude.{◌≡◌, ℕ, ◌+◌, ◌≤◌, true, false, List, [], ◌∷◌, ◌++◌, take, drop}
use Rattle.ffs_paths.specs.declared.path.DirectoryPath.{DirectoryPath}
use Rattle.ffs_volume.specs.declared.constants.TheConstants.{MAXPATHLEN}

-- the directory is reached by names that all have room, and they and a `/` are the first bytes: 1,023
-- of the names at most, and that `/`
pub record BeginsWith (p : DirectoryPath) (begins : ℕ) (bytes : List ℕ) : Type 0 where
  pub reached : p.reached ≡ true
  pub whole : p.names.cut ≡ false
  pub room : begins + p.names.start ≡ 1025
  pub inside : begins ≤ MAXPATHLEN
  pub first : take begins bytes ≡ drop p.names.start p.names.bytes ++ 47 ∷ []
