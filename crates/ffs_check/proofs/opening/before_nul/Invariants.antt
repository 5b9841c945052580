use Rattle.std.{proofs.Common.◌≤◌, specs.List.prefix_len}
use Rattle.ffs_check.proofs.Mounts.{is_set}
use Rattle.ffs_check.proofs.opening.before_nul.Given as goal

abbrev pub invariant-loop-at : goal.invariant-loop-at
invariant-loop-at l = l.at ≤ prefix_len is_set l.bytes
