use Rattle.std.proofs.Common.{arith}
use Rattle.ffs_layout.{proofs.MovedGroups.taken_most}
use Rattle.ffs_layout.proofs.groups.most_moved.Goals as goal

pub returns : goal.returns
returns c =
    let v = c.args.v.now in
    rw (c.from.ensures, c.requires.power_is) (taken_most v c.requires.exponent (omega (arith, c.requires.high, c.requires.power_is)))
