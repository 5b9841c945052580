use Rattle.ffs_pathnames.proofs.Saying.{names_then}
use Rattle.ffs_pathnames.proofs.header.say_dots.Goals as goal

pub returns : goal.returns
returns g c = names_then _ _ _ _ _ _ c.in_ok-say_dot.ensures c.say_dotdot.ensures
