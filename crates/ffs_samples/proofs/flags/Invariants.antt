use Rattle.std.proofs.Common.{◌≡◌, length, vec_len}
use Rattle.ffs_samples.proofs.flags.Given as goal

abbrev pub invariant-loop-index : goal.invariant-loop-index
invariant-loop-index l = vec_len l.list ≡ length l.values
