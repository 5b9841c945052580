use Rattle.std.proofs.Common.{◌≡◌, ℕ, List, ◌+◌, ◌*◌, ◌-◌, ◌≤◌, length, map, Ok}
use Rattle.ffs_report.specs.{Paid.Paid, PhaseOutcome.SaidOf, Progress.progress}
use Rattle.ffs_image.specs.Known.{ForBytes}
use Rattle.ffs_volume.specs.{Messages.Kinds.{of_tree, lines_from}, Report.Reads.{line_reads, sweep_reads}}
use Rattle.ffs_volume.specs.{Directories.{PathnameCheck.directory_lines, Volumes.volume_of}, Blocks.Inodes.inodes_of}
use Rattle.ffs_volume.specs.Costs.DirectoryReads.{is_looked_at, places_cost, costs_all, costs_below, directories_cost}
use Rattle.ffs_volume.specs.Costs.DirectoryReads.{directory_cost}
use Rattle.ffs_pathnames.specs.{ChecksNeeded.ChecksLookedAt, Ready.CanMakePaths, Before.{KnowsBefore, KnowsBeforeWithPlaces}}
use Rattle.ffs_workspace.specs.Leaves.{LeavesAllButPlaces}
use Rattle.ffs_pathnames.proofs.directories.check_directories.Given as goal

abbrev pub invariant-loop-number : goal.invariant-loop-number
invariant-loop-number g l =
    let v = l.geometry.layout in
    let known = KnowsBefore v (g.I.Image.device l.fn.image).contents l.fn.workspace 2 in
    let all = λ (b : List ℕ). lines_from (directory_lines (volume_of v b)) 2 (inodes_of v - 2) in
    let to_come = λ (b : List ℕ). lines_from (directory_lines (volume_of v b)) l.number (inodes_of v - l.number) in
    record {
      ready : CanMakePaths v (g.I.Image.device l.image) l.workspace l.checking.texts.kept_parent;
      device : g.I.Image.device l.image ≡ g.I.Image.device l.fn.image;
      low : 2 ≤ l.number;
      findings : LeavesAllButPlaces l.fn.workspace l.workspace;
      reads : ForBytes known (λ b. g.I.Image.reads l.image + line_reads * length (to_come b)
          ≤ g.I.Image.reads l.fn.image
          + (directories_cost v b + 2 * costs_all (directory_cost v b) l.number + line_reads * length (all b)));
      checks : ForBytes known (λ b. ChecksLookedAt v b l.fn.workspace → ChecksLookedAt v b l.workspace);
      looks : ForBytes known (λ b. ChecksLookedAt v b l.fn.workspace
          → g.I.Image.reads l.image + line_reads * length (to_come b)
          ≤ g.I.Image.reads l.fn.image + (places_cost v b
          + 2 * costs_below (is_looked_at v b) (directory_cost v b) l.number + line_reads * length (all b)));
      left : ForBytes known (λ b. 2 * directories_cost v b
          ≤ l.checking.reads_left + 2 * costs_all (directory_cost v b) l.number);
      paid : Paid {T = Unit {0}} line_reads (progress g.W.Output.sink l.fn.report)
          (progress g.W.Output.sink l.report) (g.I.Image.reads l.fn.image + 3 * sweep_reads v)
          (g.I.Image.reads l.image + l.checking.reads_left) (Ok tt);
      before : ForBytes known (λ b. KnowsBeforeWithPlaces v (g.I.Image.device l.fn.image).contents l.workspace l.number b);
      said : SaidOf known (λ b. map of_tree (to_come b)) (λ b. map of_tree (all b))
          (progress g.W.Output.sink l.fn.report) (progress g.W.Output.sink l.report);
    }
