use Rattle.ffs_certificate.proofs.DirsCertificate.{silent_right}
use Rattle.ffs_certificate.proofs.silent_is_right.Goals as goal

pub returns : goal.returns
returns c = silent_right
