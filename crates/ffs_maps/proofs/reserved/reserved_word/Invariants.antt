use Rattle.std.{proofs.Common.{◌≡◌, ◌+◌, ◌-◌, ◌≤◌, ◌<◌, ℕ, cond}, specs.Int.bit_at}
use Rattle.ffs_volume.specs.Disk.Areas.{is_reserved}
use Rattle.ffs_maps.proofs.reserved.reserved_word.Given as goal

abbrev pub invariant-loop-fragment : goal.invariant-loop-fragment
invariant-loop-fragment l = record {
  low : (k : ℕ) → k < l.fragment - l.start → bit_at l.word k ≡ cond (is_reserved l.geometry.layout (l.start + k)) 1 0;
  high : (k : ℕ) → l.fragment - l.start ≤ k → bit_at l.word k ≡ 0;
  from : l.start ≤ l.fragment;
  within : l.fragment ≤ l.limit;
}

abbrev pub decreases-loop-fragment : goal.decreases-loop-fragment
decreases-loop-fragment l = l.limit - l.fragment
