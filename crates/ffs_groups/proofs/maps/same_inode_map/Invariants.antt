use Rattle.std.proofs.Common.{◌≡◌, ◌+◌, ◌*◌, true, min}
use Rattle.ffs_volume.specs.{Groups.Records.has_bits, Groups.Records.is_used_inode}
use Rattle.ffs_groups.specs.Inodes.{class_in}
use Rattle.ffs_groups.proofs.maps.same_inode_map.Given as goal

abbrev pub invariant-loop-word : goal.invariant-loop-word
invariant-loop-word l =
    has_bits l.block l.place (min (64 * l.word) l.geometry.layout.ipg)
    (λ k. is_used_inode (class_in l.kinds) (l.group * l.geometry.layout.ipg + k)) ≡ true
