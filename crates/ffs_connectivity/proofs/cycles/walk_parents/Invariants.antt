use Rattle.std.proofs.Common.{◌≡◌, ℕ, ◌+◌, ◌<◌, length, vec_len}
use Rattle.ffs_connectivity.{proofs.Walks.Walking, specs.Cycles.{parent_in, unmet}}
use Rattle.ffs_connectivity.proofs.cycles.walk_parents.Given as goal

abbrev pub invariant-up : goal.invariant-up
invariant-up l = record {
  bound : l.at < length l.parents.items;
  long : vec_len l.walk_of ≡ vec_len l.fn.walk_of;
  walking : (steps : ℕ) × Walking (parent_in l.parents.items) l.start (l.start + 1) steps l.at l.fn.walk_of.items
      l.walk_of.items;
}

abbrev pub decreases-up : goal.decreases-up
decreases-up l = unmet l.walk_of.items
