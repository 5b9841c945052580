use Rattle.ffs_certificate.proofs.ReportLaws.{certified}
use Rattle.ffs_certificate.proofs.report_is_right.Goals as goal

pub returns : goal.returns
returns c = certified
