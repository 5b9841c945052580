use Rattle.std.proofs.Common.{arith, rules}
use Rattle.ffs_tests.proofs.claims.answers_with.Goals as goal

pub answers_of_phases-requires : goal.answers_of_phases-requires
answers_of_phases-requires c = record {
  made = c.in_ok-workspace.ensures.new.made;
  volume = search (rules, arith);
}
