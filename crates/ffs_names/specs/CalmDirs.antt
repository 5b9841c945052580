-- Directories of which nothing can be reported, by the bytes of an image, and that a survey flags them.
use Rattle.std.specs.Prelude.{◌≡◌, ℕ, true, List}
use Rattle.ffs_volume.specs.{declared.Layout.Layout, Encodings.Lists.bool_at, Costs.Calm.is_calm_directory}
use Rattle.ffs_workspace.specs.declared.workspace.Workspace.{Workspace}

-- each directory that is calm by the bytes has a flag
pub record FlagsEachCalm (v : Layout) (b : List ℕ) (w : Workspace) : Type 0 where
  pub flagged : (d : ℕ) → is_calm_directory v b d ≡ true → bool_at w.flags.items d ≡ true
