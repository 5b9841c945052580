use Rattle.std.proofs.Common.{arith}
use Rattle.ffs_walk.proofs.walk.Walk.skip_gaps.Goals as goal

pub returns : goal.returns
returns c = c.skip_zero_addresses.ensures (grind arith) c.args.blocks.now
