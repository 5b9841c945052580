-- What the level of a directory is, once more: the least number of edges from inode 2
-- (`LevelsAreLeast` of `Laws/Meanings`).
use Rattle.std.specs.Prelude.{◌≡◌, ℕ, ◌<◌, true, false}
use Rattle.ffs_volume.specs.Directories.Graph.{Graph, within}

-- the least number of edges to d is k
pub record IsLevel (g : Graph) (k d : ℕ) : Type 0 where
  pub within_k : within g k d ≡ true
  pub least : (j : ℕ) → j < k → within g j d ≡ false
