use Rattle.std.proofs.Common.{refl, ◌∙◌, sym}
use Rattle.ffs_groups.proofs.Sums.{all_bits}
use Rattle.ffs_groups.proofs.maps.filled.Goals as goal

pub returns-then-bit : goal.returns-then-bit
returns-then-bit c = λ k h. all_bits _ k refl h ∙ sym c.if-bit.true
