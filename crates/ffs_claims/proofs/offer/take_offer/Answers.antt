use Rattle.std.proofs.Common.{arith}
use Rattle.ffs_volume.proofs.Potentials.{in_range_below}
use Rattle.ffs_claims.proofs.offer.take_offer.Goals as goal

-- a dup offer is a fragment of the volume
pub overflow_cast-fragment : goal.overflow_cast-fragment
overflow_cast-fragment g c = grind (arith, in_range_below)
