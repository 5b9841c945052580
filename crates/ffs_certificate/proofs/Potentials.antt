-- Each Run that is seen uses up a fragment, a bad Run or a dup offer: so claims are bounded.
use Rattle.ffs_volume.proofs.RunBounds.{runs_bounded}
use Rattle.ffs_certificate.specs.Bounded.{ClaimsAreBounded}

pub claims_bounded : ClaimsAreBounded
claims_bounded v image g = runs_bounded v image g
