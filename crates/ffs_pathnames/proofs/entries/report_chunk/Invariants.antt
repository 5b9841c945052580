use Rattle.std.proofs.Common.{◌≡◌, ◌+◌, ◌-◌, ◌*◌, ◌≤◌, ℕ, IsTrue, List, length, map, Ok}
use Rattle.ffs_volume.specs.Directories.{Entries.entries_of, Naming.graph_of, Roles.roled_from, Volumes.volume_of}
use Rattle.ffs_volume.specs.{Messages.Kinds.of_tree, Report.Reads.line_reads, Encodings.Places.PlacesAreNoted}
use Rattle.ffs_report.specs.{Paid.Paid, PhaseOutcome.SaidOf, Progress.progress}
use Rattle.ffs_image.specs.Known.{ForBytes}
use Rattle.ffs_workspace.specs.Leaves.{LeavesSurvey}
use Rattle.ffs_names.specs.EntriesToCome.{roled_to_come}
use Rattle.ffs_pathnames.specs.{Ready.CanMakePaths, Stamps.KeepParts, PassedNames.{after_entries, entries_reported}}
use Rattle.ffs_pathnames.{specs.{Sees.passed_of, LineReads.{again_reads, path_owed}}, proofs.LineCounts.HasRead}
use Rattle.ffs_pathnames.specs.KnowsAtDirectory.{BeginsPathOf, KnowsAtDirectory, KnowsPath}
use Rattle.ffs_pathnames.proofs.entries.report_chunk.Given as goal

abbrev pub invariant-entries : goal.invariant-entries
invariant-entries g l =
    let reported_by = g.I.Image.device in
    let v = l.geometry.layout in
    let x = l.chunk in
    let known = KnowsAtDirectory v (reported_by l.fn.image).contents l.fn.workspace x.dir in
    let knows_path = KnowsPath v (reported_by l.fn.image).contents l.fn.workspace x.dir l.fn.texts in
    let entries = roled_from x.at_start 0 (entries_of v.order x.bytes.now) in
    let left = roled_to_come x.at_start l.entries in
    let all = λ (b : List ℕ). entries_reported (volume_of v b) x.dir (passed_of l.fn.workspace) entries in
    let to_come = λ (b : List ℕ). entries_reported (volume_of v b) x.dir (passed_of l.workspace) left in
    record {
      ready : CanMakePaths v (reported_by l.image) l.workspace l.texts.kept_parent;
      device : reported_by l.image ≡ reported_by l.fn.image;
      survey : LeavesSurvey l.fn.workspace l.workspace;
      places : KeepParts l.fn.workspace.words.items l.workspace.words.items;
      current : l.workspace.windows.current ≡ l.fn.workspace.windows.current;
      path : ForBytes knows_path (λ b. BeginsPathOf (graph_of (volume_of v b)) x.dir l.texts);
      settled : IsTrue l.fn.texts.path_settled → IsTrue l.texts.path_settled;
      once : ForBytes known (λ b. PlacesAreNoted v b l.fn.workspace.words.items →
          g.I.Image.reads l.image + (path_owed l.texts + again_reads * length (to_come b))
          ≤ g.I.Image.reads l.fn.image + (path_owed l.fn.texts + again_reads * length (all b)));
      passed : ForBytes known (λ b. after_entries (volume_of v b) x.dir (passed_of l.fn.workspace) entries
          ≡ after_entries (volume_of v b) x.dir (passed_of l.workspace) left);
      said : SaidOf knows_path (λ b. map of_tree (to_come b)) (λ b. map of_tree (all b))
          (progress g.W.Output.sink l.fn.report) (progress g.W.Output.sink l.report);
      counted : (b : List ℕ) → known b → PlacesAreNoted v b l.fn.workspace.words.items →
          HasRead (length (all b)) (length (to_come b)) (g.I.Image.reads l.fn.image) (g.I.Image.reads l.image)
          l.fn.workspace l.workspace;
      paid : Paid {T = Unit {0}} line_reads (progress g.W.Output.sink l.fn.report)
          (progress g.W.Output.sink l.report) (g.I.Image.reads l.fn.image) (g.I.Image.reads l.image) (Ok tt);
    }

abbrev pub decreases-entries : goal.decreases-entries
decreases-entries g l = 512 - l.entries.place
