-- A run of no fragment is in range.
use Rattle.std.proofs.Common.{◌≡◌, ℕ, true, refl}
use Rattle.ffs_volume.specs.{declared.Layout.Layout, Disk.{Areas.is_run_in_range, Numbers.all_below}}

no_fragment : (v : Layout) (start : ℕ) → is_run_in_range v start 0 ≡ true
unfolding is_run_in_range all_below
no_fragment v start = refl

pub empty_in_range : (v : Layout) (start len : ℕ) → len ≡ 0 → is_run_in_range v start len ≡ true
empty_in_range v start len e = rw e (no_fragment v start)
