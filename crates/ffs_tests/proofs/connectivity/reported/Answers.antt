use Rattle.std.proofs.Common.{arith, rules}
use Rattle.ffs_tests.proofs.connectivity.reported.Goals as goal

pub printed-end-requires : goal.printed-end-requires
printed-end-requires c = record {
  made = c.in_ok-workspace.ensures.made;
  volume = search (rules, arith);
}
