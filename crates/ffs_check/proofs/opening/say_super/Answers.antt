use Rattle.std.proofs.{Common.{arith, ◌∷◌, []}, lemmas.Result.err_from_is_err_and}
use Rattle.ffs_volume.specs.{Messages.Kinds.mounted, Report.Opening.{before_nul, setting_lines}}
use Rattle.ffs_layout.specs.Super.{superblock_in}
use Rattle.ffs_report.proofs.Reports.{says_then, stopped_more}
use Rattle.ffs_check.proofs.opening.say_super.Goals as goal

pub returns-in_err-say_settings : goal.returns-in_err-say_settings
returns-in_err-say_settings g c = grind (arith, err_from_is_err_and, stopped_more)

pub returns : goal.returns
returns g c =
    says_then _ _ _ (setting_lines (superblock_in c.args.superblock.now))
    (mounted (before_nul c.args.superblock.now.mount) ∷ []) _ c.in_ok-say_settings.ensures
    (rw c.before_nul.ensures at c.say.ensures.said)
