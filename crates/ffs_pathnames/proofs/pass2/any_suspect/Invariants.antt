use Rattle.std.proofs.Common.{◌≡◌, ◌<◌, ℕ, false, length}
use Rattle.ffs_workspace.specs.Holds.{bool_at}
use Rattle.ffs_survey.specs.Survey.{suspect_at}
use Rattle.ffs_pathnames.proofs.pass2.any_suspect.Given as goal

abbrev pub invariant-loop-number : goal.invariant-loop-number
invariant-loop-number l = l.any ≡ false → ((x : ℕ) → x < length l.inodes.kinds.now
    → bool_at l.inodes.marked.now.items x ≡ false)
    × ((x : ℕ) → x < l.number → suspect_at l.inodes.kinds.now l.inodes.marked.now.items x ≡ false)
