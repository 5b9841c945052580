use Rattle.std.proofs.{Common.{arith}}
use Rattle.ffs_volume.proofs.Results.{on_ok}
use Rattle.ffs_pathnames.proofs.gather.gather_named_path.Goals as goal

pub returns-then-not-wanted : goal.returns-then-not-wanted
returns-then-not-wanted g c = grind arith

pub put_path-requires : goal.put_path-requires
put_path-requires g c = grind arith

pub returns : goal.returns
returns g c = record {
  path = search (arith, on_ok);
  same = search arith;
  leaves = rw c.if-not-wanted.false c.put_path.ensures.puts.leaves;
}
