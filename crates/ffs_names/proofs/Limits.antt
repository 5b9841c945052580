-- All directories take no more reads than a sweep.
use Rattle.std.proofs.Common.{◌≤◌, ◌*◌, ℕ, List, arith}
use Rattle.ffs_volume.{proofs.RunBounds.runs_bounded, specs.{Laws.Geometry.IsAcceptedLayout, Report.Reads.sweep_reads}}
use Rattle.ffs_volume.specs.{declared.Layout.Layout, Costs.DirectoryReads.{directories_cost, noted_directories_cost}}
use Rattle.ffs_volume.specs.{Blocks.Inodes.inodes_of, Costs.DirectoryReads.noted_directory_cost}
use Rattle.ffs_survey.proofs.Costs.{costs_part}
use Rattle.ffs_workspace.specs.declared.workspace.Workspace.{Workspace}
use Rattle.ffs_names.{specs.Noting.{has_child, parents_sweep_cost}, proofs.{DirCosts.noted_all_within, RunSums.costs_bounded}}

pub costs_within : (v : Layout) (b : List ℕ) → IsAcceptedLayout v → directories_cost v b ≤ sweep_reads v
costs_within v b g = omega (arith, costs_bounded v b g, runs_bounded v b g)

pub noted_within : (v : Layout) (b : List ℕ) → IsAcceptedLayout v → noted_directories_cost v b ≤ sweep_reads v
noted_within v b g = omega (arith, noted_all_within v b (v.ncg * v.ipg), costs_within v b g)

-- nor do parents alone
pub parents_within : (v : Layout) (b : List ℕ) (w : Workspace) →
    parents_sweep_cost v b w ≤ noted_directories_cost v b
parents_within v b w =
    costs_part (has_child w.reached.items w.parents.items) (noted_directory_cost v b) (inodes_of v)
