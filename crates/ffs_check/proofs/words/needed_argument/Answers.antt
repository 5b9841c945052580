use Rattle.std.proofs.Common.{arith}
use Rattle.ffs_check.proofs.words.needed_argument.Goals as goal

pub returns : goal.returns
returns c = grind arith
