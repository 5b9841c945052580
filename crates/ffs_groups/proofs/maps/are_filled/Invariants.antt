use Rattle.std.proofs.Common.{◌≡◌, ◌*◌}
use Rattle.ffs_volume.specs.{Groups.Records.has_bits}
use Rattle.ffs_groups.proofs.maps.are_filled.Given as goal

abbrev pub invariant-loop-index : goal.invariant-loop-index
invariant-loop-index l = l.same ≡ has_bits l.block l.place (64 * l.index) (λ _. l.bit)
