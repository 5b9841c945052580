use Rattle.std.proofs.Common.{arith}
use Rattle.ffs_finding.proofs.words.second_argument.Goals as goal

pub returns : goal.returns
returns c = grind arith
