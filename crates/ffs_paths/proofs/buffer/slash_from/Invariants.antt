use Rattle.std.proofs.Common.{◌≡◌, ◌≤◌, drop}
use Rattle.ffs_paths.specs.Slashes.{from_slash}
use Rattle.ffs_paths.proofs.buffer.slash_from.Given as goal

abbrev pub invariant-loop-at : goal.invariant-loop-at
invariant-loop-at l = record {
  found : from_slash (drop l.at l.bytes) ≡ from_slash (drop l.place l.bytes);
  after : l.place ≤ l.at;
}
