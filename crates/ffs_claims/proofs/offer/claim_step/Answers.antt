use Rattle.ffs_claims.proofs.offer.claim_step.Goals as goal

pub returns-in-Run-clause-claims : goal.returns-in-Run-clause-claims
returns-in-Run-clause-claims g c = rw c.in-Run.is (c.take_run.ensures.claims c.in-Run.block)
