use Rattle.std.{proofs.Common.◌≡◌, proofs.Common.◌+◌, proofs.Common.◌≤◌, proofs.Common.◌-◌, specs.List.range_with_len}
use Rattle.ffs_volume.specs.Blocks.Claims.{after_offers, lines_of_offers}
use Rattle.ffs_report.specs.{PhaseOutcome.SaidTo, Progress.progress}
use Rattle.ffs_workspace.specs.Holds.{claims_of}
use Rattle.ffs_claims.specs.{Leaves.OffersOnly, Lines.of_lines}
use Rattle.ffs_claims.proofs.offer.take_offers.Given as goal

abbrev pub invariant-loop-index : goal.invariant-loop-index
invariant-loop-index g l = let v = l.geometry.layout in
    let fragments = range_with_len l.run.start l.run.len in
    let rest = range_with_len (l.run.start + l.index) (l.run.len - l.index) in record {
      only : OffersOnly v l.initial.workspace l.workspace;
      kept : l.workspace.kept ≤ l.initial.workspace.kept + l.index;
      claims : after_offers v (claims_of l.initial.workspace) fragments ≡ after_offers v (claims_of l.workspace) rest;
      said : SaidTo (of_lines (lines_of_offers v l.number (claims_of l.workspace) rest))
          (of_lines (lines_of_offers v l.number (claims_of l.initial.workspace) fragments))
          (progress g.W.Output.sink l.initial.report) (progress g.W.Output.sink l.report);
    }
