use Rattle.std.proofs.Common.{refl, rules}
use Rattle.ffs_finding.proofs.Lines.{said_prints}
use Rattle.ffs_finding.proofs.find.print_line.Goals as goal

pub returns : goal.returns
returns g c = let said = said_prints _ _ _ _ refl (rw c.new.ensures at c.say.ensures.said) in search (rules, said)
