use Rattle.std.proofs.Common.{◌≡◌, ◌+◌, ◌-◌, ◌<◌, ◌≤◌, Ok}
use Rattle.ffs_volume.specs.Blocks.{BlockCheck.{first_offer_lines, set_count}, Inodes.inodes_of}
use Rattle.ffs_volume.specs.{Costs.RescanRuns.{rescan_runs, runs_until_reported}, Blocks.KeptSteps.claims_before}
use Rattle.ffs_volume.specs.Messages.Kinds.{phase1b}
use Rattle.ffs_report.specs.{PhaseOutcome.{HeadingFirst, SaidOf}, Progress.progress}
use Rattle.ffs_image.specs.Known.{ForBytes}
use Rattle.ffs_maps.specs.Bits.{bits_of}
use Rattle.ffs_workspace.specs.{Found.WithPhase1, Ready.CanRead}
use Rattle.ffs_claims.proofs.{IndirectReads.VolumeRead, Reportings.Reporting, Rescanned.{each_from, kept_from}}
use Rattle.ffs_claims.{proofs.Rescanned.runs_from, specs.{Lines.of_lines, Moments.claim_moment, Phases.WithNotes}}
use Rattle.ffs_claims.specs.{Phases.{kept_offers, phase1b_messages_for}, Reporting.{ClearsAsSaid, Phase1bKeeps}}
use Rattle.ffs_claims.specs.Rewalking.{RunsPay, rescan_end}
use Rattle.ffs_claims.proofs.pass1b.phase1b_unlimited.Given as goal

abbrev pub invariant-loop-number : goal.invariant-loop-number
invariant-loop-number g l = let v = l.geometry.layout in
    let knows = WithPhase1 v (g.I.Image.device l.fn.image) l.fn.workspace in
    let noted = WithNotes v (g.I.Image.device l.fn.image) l.fn.workspace in record {
      ready : CanRead v (g.I.Image.device l.image) l.workspace;
      device : g.I.Image.device l.image ≡ g.I.Image.device l.fn.image;
      claims : Phase1bKeeps l.fn.workspace l.workspace;
      low : 2 ≤ l.number;
      high : 2 < l.number → l.number ≤ inodes_of v;
      runs : ForBytes noted (λ bytes. l.workspace.runs_again ≤ (claims_before v bytes l.number).runs);
      reads : RunsPay (g.I.Image.reads l.fn.image + (l.number - 2)) (g.I.Image.reads l.image) 0 l.workspace.runs_again;
      known : ForBytes noted (λ bytes. VolumeRead v bytes (claims_before v bytes l.number) l.number
          (g.I.Image.reads l.fn.image) (g.I.Image.reads l.image) l.workspace.windows.table);
      count : ForBytes knows (λ bytes. l.workspace.runs_again
          + runs_until_reported (bits_of l.workspace.duplicates) (runs_from v bytes l.number) ≡ rescan_runs v bytes);
      inodes : ForBytes knows (λ bytes. l.number
          + runs_until_reported (bits_of l.workspace.duplicates) (each_from v bytes l.number) ≡ rescan_end v bytes);
      reported : ForBytes noted (λ bytes.
          Reporting (kept_from v bytes l.number) (kept_offers v bytes) l.fn.workspace l.workspace);
      said : SaidOf noted
          (λ bytes. of_lines (first_offer_lines (bits_of l.workspace.duplicates) (kept_from v bytes l.number)))
          (phase1b_messages_for (bits_of l.fn.workspace.duplicates) v)
          (progress g.W.Output.sink l.fn.report) (progress g.W.Output.sink l.report);
      heading : HeadingFirst {T = Unit {0}} phase1b (progress g.W.Output.sink l.fn.report)
          (progress g.W.Output.sink l.report) (Ok tt);
      clears : ClearsAsSaid {T = Unit {0}} 0 (claim_moment g.W.Output l.initial.workspace l.initial.report)
          (claim_moment g.W.Output l.workspace l.report) (Ok tt);
      none : set_count (bits_of l.fn.workspace.duplicates) ≡ 0 →
          g.I.Image.reads l.image ≤ g.I.Image.reads l.fn.image;
    }
