use Rattle.ffs_pathnames.proofs.Saying.{names_then}
use Rattle.ffs_pathnames.proofs.verdict.say_defects.Goals as goal

pub returns : goal.returns
returns g c = names_then _ _ _ _ _ _ c.in_ok-say_suspect.ensures c.say_name_and_type.ensures
