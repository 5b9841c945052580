use Rattle.std.proofs.Common.{◌≡◌, ◌<◌, ℕ, ◌&&◌, ◌||◌, nat_lt, get_or, false}
use Rattle.ffs_volume.specs.Disk.Areas.{cgbase, is_reserved}
use Rattle.ffs_maps.specs.Bits.{bits_of}
use Rattle.ffs_maps.proofs.FragmentMap.set_reserved.Given as goal

abbrev pub invariant-loop-group : goal.invariant-loop-group
invariant-loop-group l = record {
  size : l.self.size ≡ l.initial.self.size;
  bits : (f : ℕ) → f < l.geometry.layout.size → get_or (bits_of l.self) f false
      ≡ ((nat_lt f (cgbase l.geometry.layout l.group) && is_reserved l.geometry.layout f)
      || get_or (bits_of l.initial.self) f false);
}
