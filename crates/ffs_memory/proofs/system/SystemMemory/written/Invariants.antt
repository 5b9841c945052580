use Rattle.std.{proofs.Common.{◌≡◌, ◌-◌, ◌≤◌, replicate, vec_len}, specs.Prelude.vec_capacity}
use Rattle.ffs_memory.proofs.system.SystemMemory.written.Given as goal

abbrev pub invariant-loop-made : goal.invariant-loop-made
invariant-loop-made g l = record {
  len : vec_len l.items ≡ l.made;
  within : l.made ≤ l.n;
  items : l.items.items ≡ replicate l.made l.value;
  room : vec_capacity l.items ≡ l.n;
}

abbrev pub decreases-loop-made : goal.decreases-loop-made
decreases-loop-made g l = l.n - l.made
