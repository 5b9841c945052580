use Rattle.std.proofs.Common.{arith, rules}
use Rattle.ffs_tests.proofs.counts.counted.Goals as goal

pub groups_printed-end-requires : goal.groups_printed-end-requires
groups_printed-end-requires c = record {
  made = c.in_ok-workspace.ensures.new.made;
  volume = search (rules, arith);
}
