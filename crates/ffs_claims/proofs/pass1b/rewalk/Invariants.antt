use Rattle.std.proofs.Common.{◌≡◌, ◌≢◌, ◌+◌, ◌≤◌, Ok}
use Rattle.ffs_volume.specs.Blocks.BlockCheck.{first_offer_lines, set_count}
use Rattle.ffs_report.specs.{PhaseOutcome.SaidOf, Progress.progress}
use Rattle.ffs_image.specs.Known.{ForBytes, IsContents}
use Rattle.ffs_maps.specs.Bits.{bits_of}
use Rattle.ffs_walk.specs.{Counts.{AreHeld, unread}, SeenRuns.seen_runs_left, Rests.most_steps_left}
use Rattle.ffs_claims.{proofs.Rewalks.{Rereads, Rewalking}, specs.{Lines.of_lines, Moments.claim_moment}}
use Rattle.ffs_claims.specs.{Reporting.ClearsAsSaid, Rewalking.{RunsPay, indirect_among, noted_runs, offers_of_runs}}
use Rattle.ffs_claims.proofs.pass1b.rewalk.Given as goal

abbrev pub invariant-loop-run : goal.invariant-loop-run
invariant-loop-run g l =
    let v = l.geometry.layout in
    let begun = l.initial.workspace in
    let all = noted_runs v begun l.number l.inode in
    let knows = IsContents (g.I.Image.device l.initial.image).contents in
    record {
      left : Rereads v (g.I.Image.device l.initial.image) (g.I.Image.device l.image) begun l.workspace;
      pending : set_count (bits_of l.workspace.duplicates) ≢ 0;
      geometry : l.runs.walk.geometry ≡ l.geometry;
      held : AreHeld l.workspace.windows.blocks l.runs.walk;
      table : l.workspace.windows.table ≡ begun.windows.table;
      counted : RunsPay (g.I.Image.reads l.initial.image) (g.I.Image.reads l.image + unread l.runs.walk)
          begun.runs_again l.workspace.runs_again;
      indirect : ForBytes knows (λ bytes. g.I.Image.reads l.image + unread l.runs.walk
          + indirect_among (seen_runs_left bytes l.runs) ≤ g.I.Image.reads l.initial.image + indirect_among (all bytes));
      walk : ForBytes knows (λ bytes. Rewalking l.number (all bytes) (seen_runs_left bytes l.runs) begun l.workspace);
      said : SaidOf knows (λ bytes. of_lines (first_offer_lines (bits_of l.workspace.duplicates)
          (offers_of_runs l.number (seen_runs_left bytes l.runs))))
          (λ bytes. of_lines (first_offer_lines (bits_of begun.duplicates) (offers_of_runs l.number (all bytes))))
          (progress g.W.Output.sink l.initial.report) (progress g.W.Output.sink l.report);
      clears : ClearsAsSaid {T = Unit {0}} 0 (claim_moment g.W.Output begun l.initial.report)
          (claim_moment g.W.Output l.workspace l.report) (Ok tt);
    }

abbrev pub decreases-loop-run : goal.decreases-loop-run
decreases-loop-run g l = most_steps_left l.runs.walk
