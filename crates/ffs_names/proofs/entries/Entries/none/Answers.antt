use Rattle.std.proofs.Common.{arith}
use Rattle.ffs_names.proofs.entries.Entries.none.Goals as goal

pub returns : goal.returns
returns c = grind arith
