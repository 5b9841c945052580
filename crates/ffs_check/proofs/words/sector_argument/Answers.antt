use Rattle.std.proofs.Common.{arith}
use Rattle.ffs_check.proofs.MatchLaws.{parsed}
use Rattle.ffs_check.proofs.words.sector_argument.Goals as goal

pub returns : goal.returns
returns c = grind (arith, parsed)
