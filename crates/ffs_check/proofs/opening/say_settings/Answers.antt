use Rattle.std.proofs.{Common.arith, lemmas.Result.err_from_is_err_and}
use Rattle.ffs_volume.specs.{Messages.Kinds.{optimization, minfree, unless}, Report.Opening.has_valid_optim}
use Rattle.ffs_volume.specs.Report.Opening.{has_valid_minfree, setting_lines}
use Rattle.ffs_layout.specs.Super.{superblock_in}
use Rattle.ffs_report.proofs.Reports.{says_then, stopped_more}
use Rattle.ffs_check.proofs.opening.say_settings.Goals as goal

pub returns-in_err-say_optimization : goal.returns-in_err-say_optimization
unfolding setting_lines
returns-in_err-say_optimization g c = grind (arith, err_from_is_err_and, stopped_more)

pub returns : goal.returns
unfolding setting_lines
returns g c =
    says_then _ _ _ (unless (has_valid_optim (superblock_in c.args.superblock.now)) optimization)
    (unless (has_valid_minfree (superblock_in c.args.superblock.now)) (minfree c.args.superblock.now.minfree)) _
    c.in_ok-say_optimization.ensures c.say_minfree.ensures
