use Rattle.std.proofs.Common.{◌≡◌, ◌≤◌, ◌+◌, ◌-◌, ◌*◌, true}
use Rattle.ffs_volume.specs.{Groups.Records.has_bits}
use Rattle.ffs_maps.specs.Bits.{bits_of}
use Rattle.ffs_groups.specs.Free.{free_in, IsAtOnce}
use Rattle.ffs_groups.proofs.maps.all_same_words.Given as goal

abbrev pub invariant-loop-word : goal.invariant-loop-word
invariant-loop-word l = record {
  same : has_bits l.block l.place (64 * l.word) (λ k. free_in (bits_of l.used) l.used.size (l.base + k)) ≡ true;
  within : l.word ≤ l.words;
  at_once : IsAtOnce l.at_once;
}

abbrev pub decreases-loop-word : goal.decreases-loop-word
decreases-loop-word l = l.words - l.word
