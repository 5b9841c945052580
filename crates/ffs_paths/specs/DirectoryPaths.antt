-- What a `DirectoryPath` holds.
use Rattle.std.specs.Prelude.{◌≡◌, ℕ, true, false, List, Option, Some, None}
use Rattle.ffs_volume.specs.Directories.{Graph.Graph, Paths.path_names}
use Rattle.ffs_paths.specs.{Buffers.HoldsNames, Slashes.HaveNoSlash, declared.path.DirectoryPath.DirectoryPath}

-- the path of a directory that these names lead to, or of one that is not reached
abbrev pub HoldsPath : DirectoryPath → Option (List (List ℕ)) → Type 0
HoldsPath p None = p.reached ≡ false
HoldsPath p (Some names) = (p.reached ≡ true) × HoldsNames p.names names × HaveNoSlash names

-- the path of the directory `dir`
abbrev pub IsPathOf : Graph → ℕ → DirectoryPath → Type 0
IsPathOf g dir p = HoldsPath p (path_names g dir)
