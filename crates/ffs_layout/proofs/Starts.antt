-- Group 0 is not moved.
use Rattle.std.{proofs.Common.{◌≡◌, ◌*◌, ℤ, pos, negsuc, ◌*ℤ◌, arith, refl, suc}, specs.Prelude.unsigned_abs}
use Rattle.ffs_volume.specs.{declared.Layout.Layout, Disk.{Numbers.zero_if_negative, Areas.{cgoffset_of, cgbase}}}
use Rattle.ffs_volume.specs.Disk.Areas.{cgstart, cgdmin}

no_product : (x : ℤ) → zero_if_negative (x *ℤ pos 0) ≡ 0
no_product (pos n) = omega arith
no_product (negsuc n) = let h : suc n * 0 ≡ 0 = omega arith in rw h refl

pub data_start : (v : Layout) → cgdmin v 0 ≡ v.dblkno
unfolding cgoffset_of cgbase cgstart
data_start v = let e = no_product v.cgoffset in omega (arith, e)

pub abs_is : (z : ℤ) → z ≡ pos (zero_if_negative z) → unsigned_abs z ≡ zero_if_negative z
abs_is (pos n) e = refl
abs_is (negsuc n) e = cc
