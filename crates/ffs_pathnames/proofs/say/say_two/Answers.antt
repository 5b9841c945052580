use Rattle.ffs_pathnames.proofs.Saying.{names_then}
use Rattle.ffs_pathnames.proofs.say.say_two.Goals as goal

pub returns : goal.returns
returns g c = names_then _ _ _ _ _ _ c.in_ok-say_if.ensures c.say_if-2.ensures
