use Rattle.std.proofs.Common.{◌≡◌, ◌+◌, ◌%◌, ◌≤◌, [], Ok}
use Rattle.ffs_image.specs.Known.{ForBytes}
use Rattle.ffs_volume.specs.Groups.GroupCheck.{unreported}
use Rattle.ffs_volume.specs.{Messages.Kinds.phase5, Report.{Whole.phase5_messages, Reads.records_at_once}}
use Rattle.ffs_layout.specs.Super.{superblock_in}
use Rattle.ffs_report.specs.{PhaseOutcome.{HeadingFirst, SaidOf}, Progress.progress}
use Rattle.ffs_groups.specs.Inodes.{class_in}
use Rattle.ffs_workspace.specs.{Found.WithBlockCheck, Ready.LeavesAllButWindows}
use Rattle.ffs_counts.specs.{BeforeFault.{lines_below_group, messages_before_group}, Once.reported_after}
use Rattle.ffs_counts.{specs.{Once.reported_of, Totals.{AreSumsOf, AreTotals}}, proofs.GroupText.{free_of, lines_after}}
use Rattle.ffs_counts.{specs.Records.IsAtRecords, proofs.GroupReads.reads_below}
use Rattle.ffs_counts.proofs.pass5.phase5.Given as goal

abbrev pub invariant-loop-group : goal.invariant-loop-group
invariant-loop-group g l =
    let v = l.superblock.geometry.layout in
    let w = l.fn.workspace in
    record {
      device : g.I.Image.device l.image ≡ g.I.Image.device l.fn.image;
      stays : LeavesAllButWindows v (g.I.Image.device l.image) w l.workspace;
      reads : g.I.Image.reads l.image ≤ g.I.Image.reads l.fn.image + reads_below l.group;
      records : (l.group % records_at_once ≡ 0 → ⊥) → IsAtRecords v l.workspace.windows.table.window l.group;
      up : AreSumsOf l.group l.totals;
      totals : AreTotals v (free_of v w) (class_in w.kinds.items) l.group l.totals;
      said : SaidOf (WithBlockCheck v (g.I.Image.device l.fn.image) w)
          (lines_after v l.superblock.cstotal w (reported_of l.once) l.group)
          (λ bytes. phase5_messages bytes (superblock_in l.superblock))
          (progress g.W.Output.sink l.fn.report) (progress g.W.Output.sink l.report);
      once : ForBytes (WithBlockCheck v (g.I.Image.device l.fn.image) w)
          (λ bytes. reported_of l.once ≡ reported_after unreported (lines_below_group v l.group bytes));
      before : SaidOf (WithBlockCheck v (g.I.Image.device l.fn.image) w) (λ bytes. [])
          (messages_before_group v l.group)
          (progress g.W.Output.sink l.fn.report) (progress g.W.Output.sink l.report);
      heading : HeadingFirst {T = Unit {0}} phase5 (progress g.W.Output.sink l.fn.report)
          (progress g.W.Output.sink l.report) (Ok tt);
    }
