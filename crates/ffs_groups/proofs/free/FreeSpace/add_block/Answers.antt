use Rattle.std.proofs.Common.{arith}
use Rattle.ffs_groups.proofs.FreeWords.{none_by_mask}
use Rattle.ffs_groups.proofs.free.FreeSpace.add_block.Goals as goal

pub returns-else-free-ne0 : goal.returns-else-free-ne0
returns-else-free-ne0 c =
    let none = none_by_mask c.args.bits c.args.frag c.requires.few c.requires.some c.if-free-ne0.false in
    record {
      blocks = omega (arith, none.0);
      fragments = omega (arith, none.1);
      frsum = λ k. omega (arith, none.2 k);
    }
