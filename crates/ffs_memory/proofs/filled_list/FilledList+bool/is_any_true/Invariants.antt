use Rattle.std.proofs.Common.{◌≡◌, ◌<◌, ◌≤◌, ℕ, false, true, length, max, slice_index_or}
use Rattle.ffs_memory.proofs.filled_list.FilledList+bool.is_any_true.Given as goal

-- those that were looked at, and those that aren't touched
abbrev pub invariant-loop-index : goal.invariant-loop-index
invariant-loop-index l =
    (l.any ≡ false → (k : ℕ) → l.from ≤ k → k < l.index → slice_index_or l.flags k false ≡ false)
    × (l.any ≡ false → (k : ℕ) → max l.from (length l.flags) ≤ k → k < l.to → slice_index_or l.self.items k false ≡ false)
    × (l.any ≡ true → ((k : ℕ) → l.from ≤ k → k < l.to → slice_index_or l.self.items k false ≡ false) → ⊥)
