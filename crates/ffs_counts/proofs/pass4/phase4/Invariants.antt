use Rattle.std.proofs.Common.{◌≡◌, ◌-◌, ◌≤◌, Ok}
use Rattle.ffs_report.specs.{Paid.Paid, PhaseOutcome.{HeadingFirst, SaidOf}, Progress.progress}
use Rattle.ffs_image.specs.Known.{ForBytes}
use Rattle.ffs_volume.specs.Directories.{ReferenceCheck.reference_lines_at, Volumes.volume_of}
use Rattle.ffs_volume.specs.{Messages.Kinds.phase4, Report.Whole.phase4_messages}
use Rattle.ffs_workspace.specs.{Found.WithFindings, Ready.CanRead}
use Rattle.ffs_workspace.proofs.TableReadLaws.{HaveBeenRead}
use Rattle.ffs_counts.proofs.Holding.{lines_after}
use Rattle.ffs_counts.proofs.pass4.phase4.Given as goal

abbrev pub invariant-loop-number : goal.invariant-loop-number
invariant-loop-number g l = record {
  within : l.number ≤ l.inodes;
  ready : CanRead l.geometry.layout (g.I.Image.device l.image) l.workspace;
  device : g.I.Image.device l.image ≡ g.I.Image.device l.fn.image;
  held : l.workspace ≡ record l.fn.workspace { windows = l.workspace.windows };
  reads : ForBytes (WithFindings l.geometry.layout (g.I.Image.device l.fn.image) l.fn.workspace)
      (λ bytes. HaveBeenRead l.geometry.layout (reference_lines_at (volume_of l.geometry.layout bytes)) l.number
      (g.I.Image.reads l.fn.image) (g.I.Image.reads l.image) l.workspace.windows.table);
  said : SaidOf (WithFindings l.geometry.layout (g.I.Image.device l.fn.image) l.fn.workspace)
      (lines_after l.geometry.layout l.number)
      (phase4_messages l.geometry.layout)
      (progress g.W.Output.sink l.fn.report) (progress g.W.Output.sink l.report);
  heading : HeadingFirst {T = Unit {0}} phase4 (progress g.W.Output.sink l.fn.report)
      (progress g.W.Output.sink l.report) (Ok tt);
  paid : Paid {T = Unit {0}} 1 (progress g.W.Output.sink l.fn.report) (progress g.W.Output.sink l.report)
      (g.I.Image.reads l.fn.image) (g.I.Image.reads l.image) (Ok tt);
}

abbrev pub decreases-loop-number : goal.decreases-loop-number
decreases-loop-number g l = l.inodes - l.number
