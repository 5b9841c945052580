use Rattle.std.proofs.Common.{◌≡◌, ◌≢◌, vec_len, ℕ, ◌<◌, ◌≤◌, length, All}
use Rattle.ffs_survey.specs.Survey.{number_at}
use Rattle.ffs_connectivity.{specs.Cycles.{parent_in, IsClosed}, proofs.Walks.MarksLeaders}
use Rattle.ffs_connectivity.proofs.cycles.flag_leaders.Given as goal

abbrev pub invariant-loop-start : goal.invariant-loop-start
invariant-loop-start l = record {
  long : vec_len l.walk_of ≡ vec_len l.fn.walk_of;
  leaders_long : vec_len l.leaders ≡ vec_len l.fn.leaders;
  closed : IsClosed (parent_in l.parents.items) l.walk_of.items;
  older : All (λ s. s ≤ l.start) l.walk_of.items;
  begun : (x : ℕ) → x < l.start → number_at l.walk_of.items x ≢ 0;
  marks : MarksLeaders (parent_in l.parents.items) (length l.parents.items) l.walk_of.items l.leaders.items;
}
