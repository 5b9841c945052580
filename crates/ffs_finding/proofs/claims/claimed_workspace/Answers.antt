use Rattle.std.proofs.{Common.{arith}}
use Rattle.ffs_finding.proofs.claims.claimed_workspace.Goals as goal

pub phase1-requires : goal.phase1-requires
phase1-requires g c = grind arith

pub returns-in_err-phase1-clause-takes : goal.returns-in_err-phase1-clause-takes
returns-in_err-phase1-clause-takes g c = grind arith

pub returns-in_err-phase1-clause-reads : goal.returns-in_err-phase1-clause-reads
returns-in_err-phase1-clause-reads g c = let p = c.phase1.ensures.reads in omega (arith, p.reads, p.runs)

pub returns-clause-takes : goal.returns-clause-takes
returns-clause-takes g c =
    let new = c.in_ok-workspace.ensures.made in
    let did = c.in_ok-phase1.ensures in
    (did.faults, new.asks, did.ready, λ b k. (did.leaves b (k, new.new.fresh)).holds)

pub returns-clause-reads : goal.returns-clause-reads
returns-clause-reads g c = let p = c.phase1.ensures.reads in omega (arith, p.reads, p.runs)
