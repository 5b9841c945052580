use Rattle.std.proofs.Common.{arith}
use Rattle.ffs_pathnames.proofs.entry_texts.make_path_unlimited.Goals as goal

pub returns-clause-makes : goal.returns-clause-makes
returns-clause-makes g c = grind arith

pub returns-clause-spares : goal.returns-clause-spares
returns-clause-spares g c = record {
  reads = c.in_ok-path.ensures.costs.spares;
  keeps = λ y b k. c.in_ok-path.ensures.costs.keeps;
}

pub returns-in_err-path-clause-makes : goal.returns-in_err-path-clause-makes
returns-in_err-path-clause-makes g c = grind arith
