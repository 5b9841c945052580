use Rattle.std.proofs.Common.{arith}
use Rattle.ffs_names.proofs.{EntryCounts.looks_on, OneChunks.ended_gap}
use Rattle.ffs_names.proofs.entries.Entries.has_right_shape.Goals as goal

-- a look for holes continues the reads
pub returns-in-Err-clause-reads : goal.returns-in-Err-clause-reads
returns-in-Err-clause-reads g c = λ w held b t.
    let took = looks_on b c.args.self.now.right_so_far c.args.self.now.chunks c.gap_of.new.chunks _ _ w w _ _ _
    c.if-not-self.false (λ h. c.in-Err.ensures.leaves.counted w h b t) held in
    record { most = took.most; paid = tt; held = tt }

pub returns-in-Ok-clause-reads : goal.returns-in-Ok-clause-reads
returns-in-Ok-clause-reads g c = λ w held b t.
    let took = looks_on b c.args.self.now.right_so_far c.args.self.now.chunks c.gap_of.new.chunks _ _ w w _ _ _
    c.if-not-self.false (λ h. c.in-Ok.ensures.leaves.counted w h b t) held in
    record {
      most = took.most;
      paid = omega (arith, took.paid);
      held = took.held;
    }

-- the only chunk was read, and there is no hole
pub returns-then-self-clause-shape : goal.returns-then-self-clause-shape
returns-then-self-clause-shape g c = grind (arith, ended_gap)

pub returns-in-Ok-clause-shape : goal.returns-in-Ok-clause-shape
returns-in-Ok-clause-shape g c = grind arith

-- asked again it answers the same
pub returns-then-self-clause-again : goal.returns-then-self-clause-again
returns-then-self-clause-again g c = grind (arith, ended_gap)

pub returns-in-Ok-clause-again : goal.returns-in-Ok-clause-again
returns-in-Ok-clause-again g c = grind arith

-- a read failed: the reading is stopped, and its count of Runs stays
pub returns-in-Err-clause-leaves : goal.returns-in-Err-clause-leaves
returns-in-Err-clause-leaves g c = grind arith
