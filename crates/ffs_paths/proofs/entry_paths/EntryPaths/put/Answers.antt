use Rattle.std.proofs.{Common.arith, lemmas.Bool.ne_eqb}
use Rattle.ffs_paths.proofs.Rooms.{named}
use Rattle.ffs_paths.proofs.entry_paths.EntryPaths.put.Goals as goal

pub returns-clause-path : goal.returns-clause-path
returns-clause-path c = grind (arith, ne_eqb, named)
