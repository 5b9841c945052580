use Rattle.std.proofs.Common.{arith, rules}
use Rattle.ffs_report.proofs.muted.MutedWriterWrite.write.Goals as goal

pub returns-in-Ok-2 : goal.returns-in-Ok-2
returns-in-Ok-2 g c = grind (arith, rules)

pub returns-in-Err : goal.returns-in-Err
returns-in-Err g c = grind arith
