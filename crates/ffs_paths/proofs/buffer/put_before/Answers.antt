use Rattle.std.proofs.{Common.arith, lemmas.{Grind.common_steps, Slice.drop-put_mid}}
use Rattle.ffs_paths.proofs.buffer.put_before.Goals as goal

pub returns : goal.returns
returns c = grind (arith, common_steps, drop-put_mid)
