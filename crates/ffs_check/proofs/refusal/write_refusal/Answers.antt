use Rattle.std.proofs.Common.{rules}
use Rattle.ffs_check.proofs.Refusals.{written}
use Rattle.ffs_check.proofs.refusal.write_refusal.Goals as goal

pub returns : goal.returns
returns g c = written _ _ _ _ c.new.result c.print_refusal.new.out _ _ c.print_refusal.ensures.prints
    c.print_refusal.ensures.refused (search rules) (search rules)
