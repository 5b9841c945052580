use Rattle.std.proofs.Common.{◌≡◌, ◌<◌, ◌≤◌, ℕ, false}
use Rattle.ffs_pathnames.specs.ChecksNeeded.{needs_check}
use Rattle.ffs_pathnames.proofs.directories.first_to_check.Given as goal

abbrev pub invariant-loop-number : goal.invariant-loop-number
invariant-loop-number l = (x : ℕ) → 2 ≤ x → x < l.number → needs_check l.workspace x ≡ false
