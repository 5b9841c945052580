use Rattle.std.proofs.{Common.{arith, sym}, lemmas.Nat.Bits.{bit_at_set_other, bit_at_set_same}}
use Rattle.ffs_groups.proofs.maps.with_bit.Goals as goal

pub returns-then-bit : goal.returns-then-bit
returns-then-bit c = search (arith, bit_at_set_same, sym, bit_at_set_other)
