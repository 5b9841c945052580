use Rattle.std.proofs.Common.{false, ◌≡◌, ◌+◌, ◌-◌, ◌*◌, ◌<◌, ◌≤◌, ◌∷◌, Ok}
use Rattle.ffs_volume.specs.Blocks.{BlockCheck.{lines_of_owners, phase1_lines}, KeptSteps.claims_before}
use Rattle.ffs_volume.specs.{Blocks.Owners.owners_of, Laws.ClaimBounds.used_bits, Messages.Kinds.phase1}
use Rattle.ffs_volume.specs.Blocks.Inodes.{inodes_of}
use Rattle.ffs_report.specs.{PhaseOutcome.{HeadingFirst, SaidOf}, Progress.progress}
use Rattle.ffs_image.specs.Known.{ForBytes}
use Rattle.ffs_workspace.specs.{Found.WithFresh, Holds.claims_of}
use Rattle.ffs_claims.proofs.{IndirectReads.VolumeRead, Numbers.FoundTo, TableReads.BlocksRead}
use Rattle.ffs_claims.specs.{Claiming.CanClaim, Leaves.ClaimsAndFinds, Lines.{of_lines, owners_from}}
use Rattle.ffs_claims.proofs.pass1.phase1.Given as goal

abbrev pub invariant-loop-number : goal.invariant-loop-number
invariant-loop-number g l = let v = l.geometry.layout in
    let knows = WithFresh v (g.I.Image.device l.fn.image) l.fn.workspace in record {
      ready : CanClaim v (g.I.Image.device l.image) l.workspace l.scan.area;
      walk : l.scan.walk.geometry ≡ l.geometry;
      device : g.I.Image.device l.image ≡ g.I.Image.device l.fn.image;
      low : 2 ≤ l.number;
      high : 2 < l.number → l.number ≤ inodes_of v;
      runs : l.workspace.runs_seen ≤ used_bits (claims_of l.workspace) + 22 * (l.number - 2);
      reads : BlocksRead v l.number (g.I.Image.reads l.fn.image) (g.I.Image.reads l.image) l.workspace.runs_seen
          l.workspace.windows.table;
      known : ForBytes knows (λ bytes. VolumeRead v bytes (claims_of l.workspace) l.number
          (g.I.Image.reads l.fn.image) (g.I.Image.reads l.image) l.workspace.windows.table);
      changes : ClaimsAndFinds (record l.fn.workspace { surveyed = false }) l.workspace;
      claims : ForBytes knows (λ bytes. claims_of l.workspace ≡ claims_before v bytes l.number);
      found : ForBytes knows (λ bytes. FoundTo v bytes l.workspace l.number);
      said : SaidOf knows (λ bytes. of_lines (lines_of_owners v (claims_of l.workspace) (owners_from v bytes l.number)))
          (λ bytes. phase1 ∷ of_lines (phase1_lines v (owners_of v bytes)))
          (progress g.W.Output.sink l.fn.report) (progress g.W.Output.sink l.report);
      heading : HeadingFirst {T = Unit {0}} phase1 (progress g.W.Output.sink l.fn.report)
          (progress g.W.Output.sink l.report) (Ok tt);
    }

abbrev pub decreases-loop-number : goal.decreases-loop-number
decreases-loop-number g l = l.end - l.number
