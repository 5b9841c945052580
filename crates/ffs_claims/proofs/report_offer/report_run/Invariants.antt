use Rattle.std.{proofs.Common.◌+◌, proofs.Common.◌-◌, proofs.Common.{map, Ok}, specs.List.range_with_len}
use Rattle.ffs_volume.specs.Blocks.{BlockCheck.first_offer_lines, KeptOffers.offer_of}
use Rattle.ffs_report.specs.{PhaseOutcome.SaidTo, Progress.progress}
use Rattle.ffs_maps.specs.Bits.{bits_of}
use Rattle.ffs_claims.{proofs.Reportings.Reporting, specs.Lines.of_lines, specs.{Moments.claim_moment, Reporting.{ClearsAsSaid, OffersReportedOnly}}}
use Rattle.ffs_claims.proofs.report_offer.report_run.Given as goal

abbrev pub invariant-loop-index : goal.invariant-loop-index
invariant-loop-index g l = record {
  only : OffersReportedOnly l.geometry.layout l.initial.workspace l.workspace;
  reported : Reporting (map (offer_of l.number) (range_with_len (l.start + l.index) (l.len - l.index)))
      (map (offer_of l.number) (range_with_len l.start l.len)) l.initial.workspace l.workspace;
  said : SaidTo (of_lines (first_offer_lines (bits_of l.workspace.duplicates)
      (map (offer_of l.number) (range_with_len (l.start + l.index) (l.len - l.index)))))
      (of_lines (first_offer_lines (bits_of l.initial.workspace.duplicates)
      (map (offer_of l.number) (range_with_len l.start l.len))))
      (progress g.W.Output.sink l.initial.report) (progress g.W.Output.sink l.report);
  clears : ClearsAsSaid {T = Unit {0}} 0 (claim_moment g.W.Output l.initial.workspace l.initial.report)
      (claim_moment g.W.Output l.workspace l.report) (Ok tt);
}
