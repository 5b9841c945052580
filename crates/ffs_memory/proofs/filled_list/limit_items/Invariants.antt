use Rattle.std.proofs.Common.{◌≡◌, ◌<◌, ◌≤◌, ℕ, length, min, slice_index_or}
use Rattle.ffs_memory.proofs.filled_list.limit_items.Given as goal

abbrev pub invariant-loop-index : goal.invariant-loop-index
invariant-loop-index l = record {
  same_length : length l.items ≡ length l.fn.items;
  done : (k : ℕ) → k < l.index → slice_index_or l.items k 0 ≡ min (slice_index_or l.fn.items k 0) l.most;
  still : (k : ℕ) → l.index ≤ k → slice_index_or l.items k 0 ≡ slice_index_or l.fn.items k 0;
}
