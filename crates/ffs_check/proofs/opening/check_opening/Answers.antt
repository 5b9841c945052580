use Rattle.std.proofs.Common.{ap, refl, rules}
use Rattle.ffs_report.specs.Progress.{Progress}
use Rattle.ffs_check.proofs.Openings.{opens_at}
use Rattle.ffs_check.proofs.opening.check_opening.Goals as goal

pub say_opening-requires : goal.say_opening-requires
say_opening-requires g c =
    record { fresh = rw c.new-report.ensures (record { working = refl; defect = refl }) }

pub returns : goal.returns
returns g c =
    opens_at g.W.Output.sink _ _ _ _ c.say_opening.ensures.opens (ap (λ (p : Progress). p.sink) c.new-report.ensures) (search rules)
