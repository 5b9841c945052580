use Rattle.std.proofs.{Common.{arith}}
use Rattle.ffs_finding.proofs.{Printing.reads_first}
use Rattle.ffs_finding.proofs.owner.find_keeper.Goals as goal

pub returns-in_err-inode-clause-finds : goal.returns-in_err-inode-clause-finds
returns-in_err-inode-clause-finds g c = grind (arith, reads_first)

pub returns-in_err-inode-clause-stays : goal.returns-in_err-inode-clause-stays
returns-in_err-inode-clause-stays g c = grind arith

pub returns-clause-finds : goal.returns-clause-finds
returns-clause-finds g c = grind arith

pub returns-clause-stays : goal.returns-clause-stays
returns-clause-stays g c = grind arith
