use Rattle.std.{proofs.Common.{◌≡◌, count_by, min}, specs.List.range_with_len}
use Rattle.ffs_volume.specs.Disk.Areas.{cgbase, is_reserved}
use Rattle.ffs_maps.proofs.reserved.reserved_count.Given as goal

abbrev pub invariant-loop-group : goal.invariant-loop-group
invariant-loop-group l = l.count ≡ count_by (is_reserved l.geometry.layout)
    (range_with_len 0 (min (cgbase l.geometry.layout l.group) l.geometry.layout.size))
