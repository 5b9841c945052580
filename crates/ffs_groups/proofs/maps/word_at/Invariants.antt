use Rattle.std.{proofs.Common.{ℕ, ◌≡◌, ◌*◌, ◌<◌, ◌≤◌, nat_eq}, specs.Int.bit_at}
use Rattle.ffs_volume.specs.Groups.Records.{bit_at as map_bit}
use Rattle.ffs_groups.proofs.maps.word_at.Given as goal

abbrev pub invariant-loop-byte : goal.invariant-loop-byte
invariant-loop-byte l = record {
  low : (k : ℕ) → k < 8 * l.byte → nat_eq (bit_at l.word k) 1 ≡ map_bit l.map l.place k;
  high : (k : ℕ) → 8 * l.byte ≤ k → bit_at l.word k ≡ 0;
}
