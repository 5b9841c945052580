use Rattle.std.proofs.Common.{ltb-true, arith}
use Rattle.ffs_paths.proofs.{LongestEnds.{text_cut, text_none, text_some, text_whole}, Held.whole-length}
use Rattle.ffs_paths.proofs.buffer.PathBuffer.put.Goals as goal

pub returns-then-self : goal.returns-then-self
returns-then-self c = grind (arith, ltb-true, text_some, text_cut)

pub returns-then-self-eq-MAXPATHLEN : goal.returns-then-self-eq-MAXPATHLEN
returns-then-self-eq-MAXPATHLEN c = grind (arith, whole-length, text_none)

pub returns-else-self-eq-MAXPATHLEN : goal.returns-else-self-eq-MAXPATHLEN
returns-else-self-eq-MAXPATHLEN c = grind (arith, whole-length, text_some, text_whole)
