use Rattle.ffs_certificate.proofs.Potentials.{claims_bounded}
use Rattle.ffs_certificate.proofs.claims_are_bounded.Goals as goal

pub returns : goal.returns
returns c = claims_bounded
