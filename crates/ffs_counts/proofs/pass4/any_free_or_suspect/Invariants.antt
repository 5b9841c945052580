use Rattle.std.proofs.Common.{◌≡◌, ◌<◌, ◌≤◌, ◌+◌, ℕ, false}
use Rattle.ffs_volume.specs.Encodings.{Kinds.is_empty_dir_kind, Lists.number_at}
use Rattle.ffs_counts.proofs.pass4.any_free_or_suspect.Given as goal

abbrev pub invariant-loop-number : goal.invariant-loop-number
invariant-loop-number l = record {
  within : l.number ≤ l.first + 64;
  sized : l.empty ≡ false → (x : ℕ) → l.first ≤ x → x < l.number → is_empty_dir_kind (number_at l.kinds x) ≡ false;
}
