use Rattle.std.proofs.Common.{◌-◌, ◌≤◌}
use Rattle.ffs_maps.specs.Bits.{bits_of}
use Rattle.ffs_groups.specs.Free.{bits_from, free_in, Added}
use Rattle.ffs_groups.proofs.free.FreeSpace.add_words.Given as goal

abbrev pub invariant-loop-block : goal.invariant-loop-block
invariant-loop-block l = record {
  added : Added (bits_from (free_in (bits_of l.used) l.used.size) l.start l.frag) 0 l.block l.initial.self l.self;
  within : l.block ≤ l.blocks;
}

abbrev pub decreases-loop-block : goal.decreases-loop-block
decreases-loop-block l = l.blocks - l.block
