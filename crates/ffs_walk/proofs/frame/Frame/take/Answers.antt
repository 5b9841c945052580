use Rattle.ffs_walk.proofs.{FrameSteps.{next_word, less_left}, frame.Frame.take.Goals.then-self+else-any_from}
use Rattle.ffs_walk.proofs.frame.Frame.take.Goals.{else-self}
use Rattle.std.proofs.Common.{arith, rules, false}
use Rattle.ffs_walk.proofs.frame.Frame.take.Goals as goal

pub returns-clause-item : goal.returns-clause-item
returns-clause-item g c = grind (arith, rules, less_left, next_word)
