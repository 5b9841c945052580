use Rattle.std.proofs.Common.{◌-◌}
use Rattle.ffs_finding.{specs.LostMaps.{is_wrong_at, word_of}, proofs.Stretches.IsAt}
use Rattle.ffs_finding.proofs.lost.print_ranges.Given as goal

abbrev pub invariant-loop-first : goal.invariant-loop-first
invariant-loop-first g l =
    IsAt (word_of l.how) (is_wrong_at l.how l.map) l.map.base l.map.end l.first l.any
    (g.W.Output.sink l.fn.out) (g.W.Output.sink l.out)

abbrev pub decreases-loop-first : goal.decreases-loop-first
decreases-loop-first g l = l.map.end - l.first
