use Rattle.std.proofs.Common.{arith}
use Rattle.ffs_memory.proofs.Touched.{first_filled, rest_filled}
use Rattle.ffs_memory.proofs.filled_list.FilledList.touched.Goals as goal

pub returns : goal.returns
returns g c = record {
  len = grind arith;
  items = grind (arith, first_filled);
  value = c.self.inside.untouched;
  others = grind (arith, rest_filled);
}
