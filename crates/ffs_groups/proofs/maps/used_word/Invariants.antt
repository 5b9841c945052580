use Rattle.std.{proofs.Common.{ℕ, ◌≡◌, ◌+◌, ◌<◌, ◌≤◌, nat_eq}, specs.Int.bit_at}
use Rattle.ffs_volume.specs.Groups.Records.{is_used_inode}
use Rattle.ffs_groups.specs.Inodes.{class_in}
use Rattle.ffs_groups.proofs.maps.used_word.Given as goal

abbrev pub invariant-loop-index : goal.invariant-loop-index
invariant-loop-index l = record {
  low : (k : ℕ) → k < l.index → nat_eq (bit_at l.word k) 1 ≡ is_used_inode (class_in l.kinds) (l.first + k);
  high : (k : ℕ) → l.index ≤ k → bit_at l.word k ≡ 0;
}
