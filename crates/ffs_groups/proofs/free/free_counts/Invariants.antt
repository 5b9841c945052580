use Rattle.std.proofs.Common.{◌-◌, ◌≤◌}
use Rattle.ffs_volume.specs.{Groups.Records.block_bits}
use Rattle.ffs_maps.specs.Bits.{bits_of}
use Rattle.ffs_groups.specs.Free.{free_in, Added, IsAtOnce}
use Rattle.ffs_groups.proofs.free.free_counts.Given as goal

abbrev pub invariant-loop-block : goal.invariant-loop-block
invariant-loop-block l = record {
  added : Added (block_bits l.geometry.layout (free_in (bits_of l.used) l.geometry.layout.size) l.group) 0 l.block
      l.initial.counts l.counts;
  within : l.block ≤ l.blocks;
  at_once : IsAtOnce l.at_once;
}

abbrev pub decreases-loop-block : goal.decreases-loop-block
decreases-loop-block l = l.blocks - l.block
