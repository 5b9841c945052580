use Rattle.std.proofs.Common.{◌≡◌, ◌+◌, ◌-◌, ◌<◌, ◌≤◌}
use Rattle.ffs_volume.specs.{Blocks.{KeptSteps.claims_before, Inodes.inodes_of}, Find.Owner.keeper_lines}
use Rattle.ffs_image.specs.Known.{ForBytes}
use Rattle.ffs_workspace.specs.Ready.{LeavesAllButWindows}
use Rattle.ffs_finding.{specs.{Claims.WithBlocks, Outcome.PrintedOf}, proofs.Owners.keepers_from}
use Rattle.ffs_finding.proofs.owner.find_keepers_unlimited.Given as goal

abbrev pub invariant-loop-number : goal.invariant-loop-number
invariant-loop-number g l =
    let v = l.geometry.layout in
    let d = g.I.Image.device l.fn.image in
    let knows = WithBlocks v d l.fn.workspace in
    record {
      device : g.I.Image.device l.image ≡ d;
      stays : LeavesAllButWindows v (g.I.Image.device l.image) l.fn.workspace l.workspace;
      low : 2 ≤ l.number;
      high : 2 < l.number → l.number ≤ inodes_of v;
      paid : ForBytes knows (λ b. g.I.Image.reads l.image
          ≤ g.I.Image.reads l.fn.image + (l.number - 2) + (claims_before v b l.number).runs);
      printed : PrintedOf knows (λ b. keepers_from v b l.fragment l.number) (λ b. keeper_lines v b l.fragment)
          (g.W.Output.sink l.fn.out) (g.W.Output.sink l.out);
    }
