use Rattle.std.{proofs.Common.{◌≡◌, ◌-◌, ◌≤◌, count_by, max}, specs.List.range_with_len}
use Rattle.ffs_volume.specs.Disk.Areas.{is_reserved}
use Rattle.ffs_maps.proofs.reserved.reserved_among.Given as goal

abbrev pub invariant-loop-fragment : goal.invariant-loop-fragment
invariant-loop-fragment l = record {
  counted : l.count ≡ count_by (is_reserved l.geometry.layout) (range_with_len l.start (l.fragment - l.start));
  from : l.start ≤ l.fragment;
  within : l.fragment ≤ max l.start l.limit;
}

abbrev pub decreases-loop-fragment : goal.decreases-loop-fragment
decreases-loop-fragment l = l.limit - l.fragment
