-- A block in range lies in the volume.
use Rattle.std.proofs.{Common.{ℕ, ◌+◌, ◌*◌, ◌<◌, ◌≤◌, IsTrue, arith}, Math.Nat.mul-le-mul_right}
use Rattle.ffs_volume.{specs.{Disk.Areas.is_run_in_range, Laws.Geometry.IsAcceptedLayout}, proofs.RunLaws.in_range_is}
use Rattle.ffs_volume.specs.declared.Layout.{Layout}

-- a run in range lies below the size
pub in_range-below : (v : Layout) (start len : ℕ) → IsAcceptedLayout v → 0 < len → IsTrue (is_run_in_range v start len)
    →
    start + len ≤ v.size
in_range-below v start len sound some h = grind (arith, in_range_is)

-- a block in range lies in the volume
pub block_fits : (v : Layout) (address : ℕ) → IsAcceptedLayout v → IsTrue (is_run_in_range v address v.frag) →
    address * v.fsize + v.bsize ≤ v.size * v.fsize
block_fits v address sound h =
    let below : address + v.frag ≤ v.size = in_range-below v address v.frag sound sound.sizes.frag_low h in
    let scaled : (address + v.frag) * v.fsize ≤ v.size * v.fsize = mul-le-mul_right v.fsize below in
    omega (arith, scaled, sound.sizes.block)
