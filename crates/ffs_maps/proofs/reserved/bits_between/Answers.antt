use Rattle.std.proofs.Common.{arith}
use Rattle.ffs_maps.proofs.Masks.{between_bits}
use Rattle.ffs_maps.proofs.reserved.bits_between.Goals as goal

pub returns : goal.returns
returns c = λ k. grind (arith, between_bits)
