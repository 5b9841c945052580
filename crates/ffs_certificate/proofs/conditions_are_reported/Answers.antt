use Rattle.ffs_certificate.proofs.ConditionLaws.{conditions_reported}
use Rattle.ffs_certificate.proofs.conditions_are_reported.Goals as goal

pub returns : goal.returns
returns c = conditions_reported
