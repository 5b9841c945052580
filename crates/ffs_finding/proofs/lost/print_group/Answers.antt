use Rattle.std.proofs.Common.{arith, sym}
use Rattle.ffs_report.proofs.Sinks.{took_nil}
use Rattle.ffs_finding.proofs.LostGroups.{right_map, with_map}
use Rattle.ffs_finding.proofs.lost.print_group.Goals as goal

pub returns-in_default : goal.returns-in_default
returns-in_default g c = grind arith

pub returns : goal.returns
returns g c = grind (arith, with_map)

pub returns-then-same_fragment_map : goal.returns-then-same_fragment_map
returns-then-same_fragment_map g c = grind (arith, right_map, sym, took_nil)
