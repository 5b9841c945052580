use Rattle.std.proofs.Common.{ℕ, ◌≡◌, ◌≤◌, ◌<◌, not}
use Rattle.ffs_finding.specs.LostMaps.{is_wrong_at}
use Rattle.ffs_finding.proofs.lost.first_with.Given as goal

abbrev pub invariant-loop-fragment : goal.invariant-loop-fragment
invariant-loop-fragment l = record {
  others : (f : ℕ) → l.from ≤ f → f < l.fragment → is_wrong_at l.how l.map f ≡ not l.wanted;
}
