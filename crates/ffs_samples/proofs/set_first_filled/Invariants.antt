use Rattle.std.proofs.Common.{◌≡◌, vec_len}
use Rattle.ffs_samples.proofs.set_first_filled.Given as goal

abbrev pub invariant-loop-index : goal.invariant-loop-index
invariant-loop-index g l = vec_len l.list ≡ vec_len l.initial.list
