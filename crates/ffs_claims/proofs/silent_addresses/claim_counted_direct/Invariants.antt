use Rattle.ffs_walk.specs.Rests.{IsAtTop, most_steps_left}
use Rattle.ffs_claims.specs.SilentAddresses.{ClaimsAddresses, with_run_counts}
use Rattle.ffs_claims.proofs.silent_addresses.claim_counted_direct.Given as goal

abbrev pub invariant-loop-walk : goal.invariant-loop-walk
invariant-loop-walk l = record {
  words : ClaimsAddresses l.initial.walk.geometry.layout (with_run_counts l.initial.workspace l.initial.counts)
      (with_run_counts l.workspace l.counts) l.initial.walk l.walk;
  top : IsAtTop l.walk;
}

abbrev pub decreases-loop-walk : goal.decreases-loop-walk
decreases-loop-walk l = most_steps_left l.walk
