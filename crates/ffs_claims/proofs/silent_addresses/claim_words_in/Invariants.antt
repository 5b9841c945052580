use Rattle.ffs_walk.specs.{HeldWords.IsInHeldBlock, Rests.most_steps_left}
use Rattle.ffs_claims.specs.SilentAddresses.{ClaimsAddresses, with_run_counts}
use Rattle.ffs_claims.proofs.silent_addresses.claim_words_in.Given as goal

abbrev pub invariant-loop-order : goal.invariant-loop-order
invariant-loop-order l = record {
  words : ClaimsAddresses l.initial.walk.geometry.layout (with_run_counts l.initial.workspace l.initial.counts)
      (with_run_counts l.workspace l.counts) l.initial.walk l.walk;
  held : IsInHeldBlock l.workspace.windows.blocks l.walk;
}

abbrev pub decreases-loop-order : goal.decreases-loop-order
decreases-loop-order l = most_steps_left l.walk
