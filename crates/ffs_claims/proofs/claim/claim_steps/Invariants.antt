use Rattle.std.proofs.Common.{◌≡◌, ◌+◌, ◌≤◌, true}
use Rattle.ffs_volume.specs.Blocks.{Claims.after_steps, Claims.lines_of_steps, Claims.is_open, Steps.steps_of}
use Rattle.ffs_volume.specs.Costs.VolumeReads.{indirect_in_steps}
use Rattle.ffs_report.specs.{PhaseOutcome.SaidOf, Progress.progress}
use Rattle.ffs_image.specs.Known.{ForBytes, IsContents}
use Rattle.ffs_walk.specs.{Counts.AreHeld, Counts.unread, Rests.steps_left, Rests.most_steps_left}
use Rattle.ffs_workspace.specs.Holds.{claims_of}
use Rattle.ffs_claims.{proofs.Inodes.Claiming, specs.Lines.of_lines}
use Rattle.ffs_claims.proofs.claim.claim_steps.Given as goal

abbrev pub invariant-loop-next : goal.invariant-loop-next
invariant-loop-next g l = let v = l.geometry.layout in let n = l.owner.number in let i = l.owner.inode.now in
    let knows = IsContents (g.I.Image.device l.fn.image).contents in record {
      device : g.I.Image.device l.image ≡ g.I.Image.device l.fn.image;
      left : Claiming v (g.I.Image.device l.image) l.fn.workspace l.workspace l.scan.area;
      open_still : is_open (claims_of l.workspace) ≡ true;
      geometry : l.scan.walk.geometry ≡ l.geometry;
      held : AreHeld l.workspace.windows.blocks l.scan.walk;
      counted : g.I.Image.reads l.image + unread l.scan.walk + l.fn.workspace.runs_seen
          ≤ g.I.Image.reads l.fn.image + l.workspace.runs_seen;
      indirect : ForBytes knows (λ bytes. g.I.Image.reads l.image + unread l.scan.walk
          + indirect_in_steps v (claims_of l.workspace) (steps_left bytes l.scan.walk)
          ≤ g.I.Image.reads l.fn.image + indirect_in_steps v (claims_of l.fn.workspace) (steps_of v i bytes));
      claims : ForBytes knows (λ bytes. after_steps v (claims_of l.workspace) (steps_left bytes l.scan.walk)
          ≡ after_steps v (claims_of l.fn.workspace) (steps_of v i bytes));
      said : SaidOf knows
          (λ bytes. of_lines (lines_of_steps v n (claims_of l.workspace) (steps_left bytes l.scan.walk)))
          (λ bytes. of_lines (lines_of_steps v n (claims_of l.fn.workspace) (steps_of v i bytes)))
          (progress g.W.Output.sink l.fn.report) (progress g.W.Output.sink l.report);
    }

abbrev pub decreases-loop-next : goal.decreases-loop-next
decreases-loop-next g l = most_steps_left l.scan.walk
