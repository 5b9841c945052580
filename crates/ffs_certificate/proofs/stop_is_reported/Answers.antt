use Rattle.ffs_certificate.proofs.ReportLaws.{stop_reported}
use Rattle.ffs_certificate.proofs.stop_is_reported.Goals as goal

pub returns : goal.returns
returns c = stop_reported
