-- What the first rules of a layout leave for the later ones.
use Rattle.std.proofs.{Common.{◌≡◌, ◌-◌, ◌*◌, ◌^◌, ◌<◌, ◌≤◌, ℕ, true, arith}, lemmas.Bool.Decides.nat_tests}
use Rattle.ffs_volume.specs.{declared.Layout.Layout, Disk.Outcome.{is_block_size, is_fragment_count, has_valid_sizes}}
use Rattle.ffs_volume.{specs.Disk.Outcome.has_valid_numbers, proofs.GeometryLaws.{sizes_hold, numbers_hold}}

pub block_size_above : (n : ℕ) → is_block_size n ≡ true → 4096 ≤ n
unfolding is_block_size
block_size_above n e = grind (arith, nat_tests)

pub fragment_count_above : (n : ℕ) → is_fragment_count n ≡ true → 1 ≤ n
unfolding is_fragment_count
fragment_count_above n e = grind (arith, nat_tests)

pub fragments_above : (v : Layout) → has_valid_sizes v ≡ true → 0 < v.fsize
fragments_above v e = let sizes = sizes_hold v e in omega arith

-- the base of the last group
pub bases_below : (v : Layout) → has_valid_numbers v ≡ true → (v.ncg - 1) * v.fpg < 2 ^ 31
bases_below v e = let numbers = numbers_hold v e in omega arith
