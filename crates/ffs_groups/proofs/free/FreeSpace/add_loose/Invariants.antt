use Rattle.std.proofs.Common.{ℕ, ◌≡◌, ◌+◌, ◌-◌, ◌≤◌, slice_index, count_by, ◌==◌}
use Rattle.ffs_volume.specs.{Groups.Records.free_stretches}
use Rattle.ffs_groups.specs.Free.{word_bits}
use Rattle.ffs_groups.proofs.free.FreeSpace.add_loose.Given as goal

abbrev pub invariant-loop-index : goal.invariant-loop-index
invariant-loop-index l = record {
  fragments : l.self.fragments + count_by (λ f. f)
      (word_bits l.bits l.index (l.frag - l.index)) ≡ l.initial.self.fragments + count_by (λ f. f)
      (word_bits l.bits 0 l.frag);
  frsum : (k : ℕ) → slice_index l.self.frsum k + count_by (λ n. n == k)
      (free_stretches 0 (word_bits l.bits l.index (l.frag - l.index)))
      ≡ slice_index l.initial.self.frsum k + count_by (λ n. n == k) (free_stretches 0 (word_bits l.bits 0 l.frag));
  within : l.index ≤ l.frag;
  blocks : l.self.blocks ≡ l.initial.self.blocks;
}

abbrev pub decreases-loop-index : goal.decreases-loop-index
decreases-loop-index l = l.frag - l.index
