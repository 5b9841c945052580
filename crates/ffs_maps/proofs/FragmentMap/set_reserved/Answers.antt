use Rattle.ffs_maps.{proofs.{Masks.{run_outside, run_inside}, Bits.bits_long, ReservedBits.all_set}, specs.Bits.bits_of}
use Rattle.ffs_maps.proofs.Runs.{bases_end, none_before}
use Rattle.std.proofs.Common.{◌≡◌, ◌∙◌, arith}
use Rattle.ffs_volume.specs.Disk.Areas.{cgbase}
use Rattle.ffs_maps.proofs.FragmentMap.set_reserved.Goals as goal

pub loop-group-init : goal.loop-group-init
loop-group-init c = grind (arith, none_before)

pub loop-group-preserved : goal.loop-group-preserved
loop-group-preserved c = grind (arith, bits_long, run_outside, run_inside)

pub returns : goal.returns
returns c =
    let g = c.args.geometry.now in
    let inv = c.loop-group.invariant in
    let over : c.loop-group.group ≡ g.layout.ncg = omega arith in
    record {
      size = inv.size;
      bits = all_set g.layout (bits_of c.args.self.now) (bits_of c.loop-group.self) (cgbase g.layout c.loop-group.group)
          (bases_end g.layout c.loop-group.group g.sound over) (bits_long c.loop-group.self ∙ inv.size ∙ c.requires)
          inv.bits;
    }
