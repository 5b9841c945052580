-- The bound on claims.
use Rattle.std.specs.Prelude.{◌≤◌, ℕ, List}
use Rattle.ffs_volume.specs.{declared.Layout.Layout, Laws.Geometry.IsAcceptedLayout, Report.Memory.runs_limit}
use Rattle.ffs_volume.specs.Report.Whole.{run_count}

-- whatever the addresses of an image are, no more Runs are seen than one for each fragment and 22
-- for each inode
abbrev pub ClaimsAreBounded : Type 0
ClaimsAreBounded = (v : Layout) (image : List ℕ) → IsAcceptedLayout v → run_count v image ≤ runs_limit v
