use Rattle.std.proofs.Common.{◌≡◌, ◌-◌, ◌≤◌}
use Rattle.ffs_maps.specs.Bits.{bits_of, set_run}
use Rattle.ffs_maps.proofs.FragmentMap.set_run.Given as goal

abbrev pub invariant-loop-index : goal.invariant-loop-index
invariant-loop-index l = record {
  size : l.self.size ≡ l.initial.self.size;
  from : l.start ≤ l.index;
  within : l.index ≤ l.end;
  bits : set_run (bits_of l.initial.self) l.start l.len ≡ set_run (bits_of l.self) l.index (l.end - l.index);
}

abbrev pub decreases-loop-index : goal.decreases-loop-index
decreases-loop-index l = l.end - l.index
