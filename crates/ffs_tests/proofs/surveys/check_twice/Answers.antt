use Rattle.std.proofs.Common.{arith}
use Rattle.ffs_tests.proofs.surveys.check_twice.Goals as goal

pub path_of-requires : goal.path_of-requires
path_of-requires g c = record {
  ready = c.forget_windows.ensures.forgets c.args.geometry.now.layout _ c.in_ok-phase2.ensures.ready;
  number = omega arith;
}
