use Rattle.ffs_certificate.proofs.Keeping.{keeps_by_rule}
use Rattle.ffs_certificate.proofs.keeping_is_by_rule.Goals as goal

pub returns : goal.returns
returns c = keeps_by_rule
