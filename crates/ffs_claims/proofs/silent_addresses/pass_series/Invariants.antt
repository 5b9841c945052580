use Rattle.std.proofs.Common.{◌+◌, ◌-◌, ◌≤◌}
use Rattle.ffs_claims.specs.Series.{PassesSeries}
use Rattle.ffs_claims.proofs.silent_addresses.pass_series.Given as goal

abbrev pub invariant-loop-end : goal.invariant-loop-end
invariant-loop-end l = record {
  low : l.start ≤ l.end;
  passes : PassesSeries l.initial.walk.geometry.layout l.blocks l.address (l.end - l.start) l.initial.walk l.walk;
}

abbrev pub decreases-loop-end : goal.decreases-loop-end
decreases-loop-end l = l.last + 1 - l.end
