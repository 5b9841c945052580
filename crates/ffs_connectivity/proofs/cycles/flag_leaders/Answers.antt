use Rattle.ffs_volume.proofs.ClimbLaws.{is_leader_within-true}
use Rattle.std.proofs.Common.{arith}
use Rattle.ffs_connectivity.proofs.Walks.{marks_found, older_after}
use Rattle.ffs_connectivity.proofs.cycles.flag_leaders.Goals as goal

pub loop-start-preserved : goal.loop-start-preserved
loop-start-preserved c =
    let inv = c.loop-start.invariant in
    let walk = c.walk_parents.ensures in
    let least = c.least_on.ensures in
    record {
      long = grind arith;
      leaders_long = grind arith;
      closed = walk.walked.closed;
      older = older_after walk.walked (omega (arith, walk.long)) inv.older;
      begun = grind arith;
      marks = rw c.set.ensures.items (marks_found c.loop-start.leaders.items (omega (arith, least.low, inv.marks.long))
          walk.walked (rw c.in-Some.is at walk.cycle) least inv.marks);
    }

pub loop-start-preserved-in_default : goal.loop-start-preserved-in_default
loop-start-preserved-in_default c =
    let inv = c.loop-start.invariant in
    let walk = c.in_default.ensures in
    record {
      long = grind arith;
      leaders_long = grind arith;
      closed = walk.walked.closed;
      older = older_after walk.walked (omega (arith, walk.long)) inv.older;
      begun = grind arith;
      marks = grind (arith, is_leader_within-true);
    }
