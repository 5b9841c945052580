use Rattle.std.{proofs.Common.{◌≡◌, ℕ, List, map, ◌+◌, ◌*◌, ◌≤◌, length, Ok}, specs.List.flat_map}
use Rattle.ffs_volume.specs.{Messages.Kinds.of_tree, Report.Reads.{line_reads, path_reads}, Directories.Naming.graph_of}
use Rattle.ffs_volume.specs.Directories.{Roles.{roled_chunk, roled_entries}, Volumes.volume_of}
use Rattle.ffs_volume.specs.{Costs.DirectoryReads.directory_runs, Encodings.Places.PlacesAreNoted}
use Rattle.ffs_pathnames.specs.{LineReads.{again_reads, path_owed}, Ready.CanMakePaths, Sees.passed_of}
use Rattle.ffs_pathnames.specs.{Stamps.KeepParts, KnowsAtDirectory.BeginsPathOf, ReadsLeft.KnowsForRuns}
use Rattle.ffs_pathnames.specs.PassedNames.{after_entries, entries_reported}
use Rattle.ffs_report.specs.{Paid.Paid, PhaseOutcome.SaidOf, Progress.progress}
use Rattle.ffs_image.specs.Known.{ForBytes}
use Rattle.ffs_names.specs.{Readings.rest, Costs.{to_read, HoldsReading}}
use Rattle.ffs_workspace.specs.Leaves.{LeavesSurvey}
use Rattle.ffs_pathnames.proofs.entries.report_entries.Given as goal

abbrev pub invariant-chunks : goal.invariant-chunks
invariant-chunks g l =
    let reported_by = g.I.Image.device in
    let v = l.geometry.layout in
    let x = l.directory in
    let known = KnowsForRuns v (reported_by l.fn.image) l.fn.workspace x l.fn.checking.reads_left in
    let all = λ (b : List ℕ).
    entries_reported (volume_of v b) x.number (passed_of l.fn.workspace) (roled_entries (volume_of v b) x.number) in
    let to_come = λ (b : List ℕ).
    entries_reported (volume_of v b) x.number (passed_of l.workspace) (flat_map roled_chunk (rest b l.chunks)) in
    record {
      ready : CanMakePaths v (reported_by l.image) l.workspace l.checking.texts.kept_parent;
      device : reported_by l.image ≡ reported_by l.fn.image;
      geometry : l.chunks.walk.geometry ≡ l.geometry;
      survey : LeavesSurvey l.fn.workspace l.workspace;
      places : KeepParts l.fn.workspace.words.items l.workspace.words.items;
      path : ForBytes known (λ b. BeginsPathOf (graph_of (volume_of v b)) x.number l.checking.texts);
      passed : ForBytes known (λ b.
          after_entries (volume_of v b) x.number (passed_of l.fn.workspace) (roled_entries (volume_of v b) x.number)
          ≡ after_entries (volume_of v b) x.number (passed_of l.workspace) (flat_map roled_chunk (rest b l.chunks)));
      held : ForBytes known (λ b. PlacesAreNoted v b l.fn.workspace.words.items →
          HoldsReading l.workspace.windows.blocks l.workspace.windows.current l.chunks);
      reads : ForBytes known (λ b. PlacesAreNoted v b l.fn.workspace.words.items →
          g.I.Image.reads l.image + to_read b l.chunks + line_reads * length (to_come b)
          ≤ g.I.Image.reads l.fn.image + (directory_runs v b x.number + line_reads * length (all b)));
      once : ForBytes known (λ b. PlacesAreNoted v b l.fn.workspace.words.items → g.I.Image.reads l.image
          + to_read b l.chunks + (path_owed l.checking.texts + again_reads * length (to_come b))
          ≤ g.I.Image.reads l.fn.image
          + (directory_runs v b x.number + (path_reads + again_reads * length (all b))));
      spent : ForBytes known (λ b. l.fn.checking.reads_left + to_read b l.chunks
          ≤ l.checking.reads_left + directory_runs v b x.number);
      paid : Paid {T = Unit {0}} line_reads (progress g.W.Output.sink l.fn.report)
          (progress g.W.Output.sink l.report) (g.I.Image.reads l.fn.image + l.fn.checking.reads_left)
          (g.I.Image.reads l.image + l.checking.reads_left) (Ok tt);
      said : SaidOf known (λ b. map of_tree (to_come b)) (λ b. map of_tree (all b))
          (progress g.W.Output.sink l.fn.report) (progress g.W.Output.sink l.report);
    }

abbrev pub decreases-chunks : goal.decreases-chunks
decreases-chunks g l = l.chunks.chunks_left
