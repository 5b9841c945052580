use Rattle.std.proofs.{Common.{arith, rules}, lemmas.List.{length-append, length-drop, length-map, length-take}}
use Rattle.ffs_report.proofs.Shows.{shown_part}
use Rattle.ffs_report.proofs.print.print_masked.Goals as goal

pub loop-at-preserved : goal.loop-at-preserved
loop-at-preserved g c = grind (arith, arith, length-append, length-drop, length-map, length-take, shown_part, rules)
