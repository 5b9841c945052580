use Rattle.std.proofs.{Common.{◌+◌, ◌∷◌, [], ap, arith, refl}, lemmas.Result.err_from_is_err_and}
use Rattle.ffs_volume.specs.Blocks.{KeptOffers.{offer_of}}
use Rattle.ffs_report.proofs.Reporting.{to_begins, to_says, to_stops, to_ends}
use Rattle.ffs_claims.proofs.Clearing.{clears_failed, clears_none, clears_offers, clears_then}
use Rattle.ffs_claims.proofs.{Frames.{offers_reported_then}, Reportings.{run_next, run_over}}
use Rattle.ffs_claims.proofs.Reportings.{reporting_begins, reporting_more, reporting_ends, lines_split, part_now}
use Rattle.ffs_claims.proofs.report_offer.report_run.Goals as goal

pub loop-index-init : goal.loop-index-init
loop-index-init g c = grind (arith, reporting_begins, to_begins, clears_none)

pub returns-in_err-report_offer-clause-reported : goal.returns-in_err-report_offer-clause-reported
returns-in_err-report_offer-clause-reported g c =
    let f = c.from.result + c.from-in-loop-index.result in
    let next = run_next c.args.number c.args.start c.args.len c.loop-index.index f c.loop-index-test.true (omega arith) in
    let stays = c.in_err-report_offer.ensures.unreported in
    rw ((err_from_is_err_and c.from_residual.result c.from_residual.ensures.1).1) (record {
      said = to_stops _ _ _ _ _ _ _ c.loop-index.invariant.said
          (lines_split _ _ _ (offer_of c.args.number f ∷ []) _ next refl) c.in_err-report_offer.ensures.said;
      reported = tt;
      part = part_now c.loop-index.invariant.reported (ap (λ w. w.duplicates) stays) (ap (λ w. w.marked) stays);
      clears = clears_then c.loop-index.invariant.clears (clears_failed (offer_of c.args.number f)
          c.in_err-report_offer.ensures.said (ap (λ w. w.duplicates) stays));
      only = rw stays c.loop-index.invariant.only.reporting;
    })

pub loop-index-preserved : goal.loop-index-preserved
loop-index-preserved g c =
    let inv = c.loop-index.invariant in
    let n = c.args.number in
    let f = c.from.result + c.from-in-loop-index.result in
    let next = run_next n c.args.start c.args.len c.loop-index.index f c.loop-index-test.true (omega arith) in
    record {
      only = offers_reported_then inv.only c.in_ok-report_offer.ensures.reported.only;
      reported = reporting_more inv.reported next c.in_ok-report_offer.ensures.reported.reported;
      said = to_says inv.said
          (lines_split _ _ _ (offer_of n f ∷ []) _ next c.in_ok-report_offer.ensures.reported.reported.duplicates)
          c.in_ok-report_offer.ensures.said;
      clears = clears_then inv.clears (clears_offers (offer_of n f ∷ []) c.in_ok-report_offer.ensures.said
          c.in_ok-report_offer.ensures.reported.reported);
    }

pub returns-clause-reported : goal.returns-clause-reported
returns-clause-reported g c = search (arith, run_over, to_ends, reporting_ends)
