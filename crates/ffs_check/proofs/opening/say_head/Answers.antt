use Rattle.std.proofs.{Common.{arith, ◌∷◌, []}, lemmas.Result.err_from_is_err_and}
use Rattle.ffs_volume.specs.{Messages.Kinds.image_name, Report.Opening.location_lines}
use Rattle.ffs_report.proofs.Reports.{says_then, stopped_more}
use Rattle.ffs_check.proofs.opening.say_head.Goals as goal

pub returns-in_err-say_location : goal.returns-in_err-say_location
returns-in_err-say_location g c = grind (arith, err_from_is_err_and, stopped_more)

pub returns : goal.returns
returns g c =
    says_then _ _ _ (location_lines c.args.args.now.sector) (image_name c.args.args.now.name.now ∷ []) _
    c.in_ok-say_location.ensures c.say.ensures.said
