use Rattle.std.proofs.Common.{◌≡◌, ◌≤◌, Ok}
use Rattle.ffs_report.specs.{Paid.Paid, PhaseOutcome.{HeadingFirst, SaidOf}, Progress.progress}
use Rattle.ffs_image.specs.Known.{ForBytes}
use Rattle.ffs_volume.specs.Directories.{Connectivity.unref_dir_lines, Volumes.volume_of}
use Rattle.ffs_volume.specs.{Report.Whole.phase3_messages, Messages.Kinds.phase3}
use Rattle.ffs_workspace.specs.{Found.WithSurvey, Leaves.LeavesSurvey, Ready.CanRead}
use Rattle.ffs_workspace.proofs.TableReadLaws.{HaveBeenRead}
use Rattle.ffs_connectivity.{specs.Leaders.HasLeaders, proofs.UnrefLines.lines_from_dir}
use Rattle.ffs_connectivity.proofs.pass3.phase3.Given as goal

abbrev pub invariant-loop-number : goal.invariant-loop-number
invariant-loop-number g l = let v = l.geometry.layout in record {
  ready : CanRead v (g.I.Image.device l.image) l.workspace;
  device : g.I.Image.device l.image ≡ g.I.Image.device l.fn.image;
  low : 2 ≤ l.number;
  survey : LeavesSurvey l.fn.workspace l.workspace;
  leaders : HasLeaders l.workspace;
  reads : ForBytes (WithSurvey v (g.I.Image.device l.fn.image) l.fn.workspace)
      (λ bytes. HaveBeenRead v (unref_dir_lines (volume_of v bytes)) l.number (g.I.Image.reads l.fn.image)
      (g.I.Image.reads l.image) l.workspace.windows.table);
  said : SaidOf (WithSurvey v (g.I.Image.device l.fn.image) l.fn.workspace)
      (lines_from_dir v l.number)
      (phase3_messages v)
      (progress g.W.Output.sink l.fn.report) (progress g.W.Output.sink l.report);
  heading : HeadingFirst {T = Unit {0}} phase3 (progress g.W.Output.sink l.fn.report)
      (progress g.W.Output.sink l.report) (Ok tt);
  paid : Paid {T = Unit {0}} 1 (progress g.W.Output.sink l.fn.report) (progress g.W.Output.sink l.report)
      (g.I.Image.reads l.fn.image) (g.I.Image.reads l.image) (Ok tt);
}
