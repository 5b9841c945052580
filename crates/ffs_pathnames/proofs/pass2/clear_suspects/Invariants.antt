use Rattle.std.proofs.Common.{◌≡◌, ◌<◌, ◌≤◌, ℕ, not, ◌&&◌, vec_len}
use Rattle.ffs_workspace.specs.Holds.{bool_at}
use Rattle.ffs_survey.specs.Survey.{suspect_at}
use Rattle.ffs_pathnames.proofs.pass2.clear_suspects.Given as goal

abbrev pub invariant-loop-number : goal.invariant-loop-number
invariant-loop-number l = record {
  long : vec_len l.flags ≡ vec_len l.fn.flags;
  done : (x : ℕ) → x < l.number → bool_at l.flags.items x
      ≡ (bool_at l.fn.flags.items x && not (suspect_at l.inodes.kinds.now l.inodes.marked.now.items x));
  rest : (x : ℕ) → l.number ≤ x → bool_at l.flags.items x ≡ bool_at l.fn.flags.items x;
}
