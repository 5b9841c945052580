use Rattle.std.proofs.{Common.{arith, ◌+◌, ◌∙◌, refl}, lemmas.Result.err_from_is_err_and}
use Rattle.ffs_volume.{proofs.Potentials.each_ok}
use Rattle.ffs_report.proofs.Reporting.{to_begins, to_says, to_stops}
use Rattle.ffs_claims.proofs.{Frames.{offers_then}, StepsContinue.{range_next, offers_more}}
use Rattle.ffs_claims.proofs.offer.take_offers.Goals as goal

pub returns-in_err-take_offer : goal.returns-in_err-take_offer
returns-in_err-take_offer g c =
    rw ((err_from_is_err_and c.from_residual.result c.from_residual.ensures.1).1) (record {
      said = to_stops _ _ _ _ _ _ _ c.loop-index.invariant.said (offers_more c.args.geometry.now.layout _ _ _
          c.args.run.start c.args.run.len c.loop-index.index (c.from.result + c.from-in-loop-index.result)
          c.loop-index-test.true (omega arith) c.take_offer.ensures.taken.claims) c.in_err-take_offer.ensures.said;
      claims = tt;
      only = offers_then c.loop-index.invariant.only c.take_offer.ensures.taken.only;
    })

pub loop-index-preserved : goal.loop-index-preserved
loop-index-preserved g c =
    let inv = c.loop-index.invariant in
    let v = c.args.geometry.now.layout in
    let run = c.args.run in
    let f = c.from.result + c.from-in-loop-index.result in
    record {
      only = offers_then inv.only c.take_offer.ensures.taken.only;
      kept = grind arith;
      claims = inv.claims ∙ rw (range_next run.start run.len c.loop-index.index f c.loop-index-test.true (omega arith))
          (rw c.take_offer.ensures.taken.claims refl);
      said = to_says inv.said
          (offers_more v _ _ _ run.start run.len c.loop-index.index f c.loop-index-test.true (omega arith)
          c.take_offer.ensures.taken.claims) c.in_ok-take_offer.ensures.said;
    }

pub loop-index-init : goal.loop-index-init
loop-index-init g c = grind (arith, to_begins)

pub take_offer-requires : goal.take_offer-requires
take_offer-requires g c = grind (arith, each_ok)
