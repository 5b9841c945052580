use Rattle.std.proofs.Common.{ℕ, ◌<◌, length}
use Rattle.ffs_connectivity.{proofs.Walks.{Rounding, steps_back}, specs.Cycles.parent_in}
use Rattle.ffs_connectivity.proofs.cycles.least_on.Given as goal

abbrev pub invariant-round : goal.invariant-round
invariant-round l = record {
  bound : l.at < length l.parents.items;
  low : l.least < length l.parents.items;
  rounding : (steps : ℕ) × Rounding (parent_in l.parents.items) l.found steps l.at l.least;
}

abbrev pub decreases-round : goal.decreases-round
decreases-round l = steps_back (parent_in l.parents.items) (length l.parents.items) l.found l.at
