use Rattle.std.proofs.Common.{ℕ, ℤ, pos, ◌+ℤ◌, ◌*ℤ◌, ◌*◌, ◌≤◌, mul-le-mul, arith, w8, w32, w64, Fits, SFits}
use Rattle.std.proofs.{Common.unsigned_abs, lemmas.Int.{ints, to_z-of_z, fits_signed_from_abs, unsigned_abs-mul}}
use Rattle.std.proofs.Math.IntN.{*ℤ_comm, +ℤ_comm}
use Rattle.ffs_counts.proofs.summing.free_in_all.Goals as goal

blocks_most : (frag : ℕ) (blocks : ℤ) → Fits w8 frag → SFits w32 blocks →
    unsigned_abs (pos frag *ℤ blocks) ≤ 255 * 2147483648
blocks_most frag blocks f b = grind (arith, ints, unsigned_abs-mul, mul-le-mul)

blocks_fit : (frag : ℕ) (blocks : ℤ) → Fits w8 frag → SFits w32 blocks → SFits w64 (pos frag *ℤ blocks)
blocks_fit frag blocks f b = search (arith, fits_signed_from_abs, blocks_most)

sum_fits : (a p : ℤ) → SFits w32 a → unsigned_abs p ≤ 255 * 2147483648 → SFits w64 (a +ℤ p)
sum_fits a p f m = grind (arith, ints)

all_fit : (frags : ℤ) (frag : ℕ) (blocks : ℤ) → SFits w32 frags → Fits w8 frag → SFits w32 blocks →
    SFits w64 (frags +ℤ pos frag *ℤ blocks)
all_fit frags frag blocks a f b = sum_fits frags (pos frag *ℤ blocks) a (blocks_most frag blocks f b)

-- in any order of the product and of the sum
pub overflow_mul-result : goal.overflow_mul-result
overflow_mul-result c = grind (arith, to_z-of_z, blocks_fit, *ℤ_comm)

pub overflow_add-result : goal.overflow_add-result
overflow_add-result c = grind (arith, to_z-of_z, blocks_fit, all_fit, *ℤ_comm, +ℤ_comm)

pub returns : goal.returns
returns c = grind (arith, to_z-of_z, blocks_fit, all_fit, *ℤ_comm, +ℤ_comm)
