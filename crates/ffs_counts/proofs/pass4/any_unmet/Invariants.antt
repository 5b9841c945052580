use Rattle.std.proofs.Common.{◌≡◌, ◌<◌, ℕ, false, slice_index}
use Rattle.ffs_volume.specs.declared.constants.TheConstants.{LINKS_MET}
use Rattle.ffs_counts.proofs.pass4.any_unmet.Given as goal

abbrev pub invariant-loop-count : goal.invariant-loop-count
invariant-loop-count l = l.any ≡ false → (k : ℕ) → k < l.count-index → slice_index l.counts k ≡ LINKS_MET
