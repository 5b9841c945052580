use Rattle.std.proofs.Common.{◌≡◌, ◌<◌, ◌≤◌, ℕ, false, vec_len}
use Rattle.ffs_workspace.specs.{Holds.bool_at, declared.workspace.Workspace.Workspace}
use Rattle.ffs_pathnames.specs.ChecksNeeded.{needs_check}
use Rattle.ffs_pathnames.proofs.directories.any_to_check.Given as goal

-- no inode is marked, and none of those below n needs a check
abbrev NoneNeedsCheck : Workspace → ℕ → Type 0
NoneNeedsCheck w n = ((x : ℕ) → x < vec_len w.kinds → bool_at w.marked.items x ≡ false)
    × ((x : ℕ) → 2 ≤ x → x < n → needs_check w x ≡ false)

abbrev pub invariant-loop-number : goal.invariant-loop-number
invariant-loop-number l = l.any ≡ false → NoneNeedsCheck l.workspace l.number

abbrev pub invariant-loop-number-2 : goal.invariant-loop-number-2
invariant-loop-number-2 l = l.any ≡ false → NoneNeedsCheck l.workspace l.number
