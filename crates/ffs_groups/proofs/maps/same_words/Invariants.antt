use Rattle.std.proofs.Common.{◌≡◌, ◌+◌, ◌*◌, true, min}
use Rattle.ffs_volume.specs.{Groups.Records.has_bits}
use Rattle.ffs_maps.specs.Bits.{bits_of}
use Rattle.ffs_groups.specs.Free.{free_in}
use Rattle.ffs_groups.proofs.maps.same_words.Given as goal

abbrev pub invariant-loop-word : goal.invariant-loop-word
invariant-loop-word l =
    has_bits l.block l.place (min (64 * l.word) (64 * l.words))
    (λ k. free_in (bits_of l.used) l.used.size (l.base + k)) ≡ true
