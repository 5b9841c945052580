use Rattle.std.proofs.Common.{◌≡◌}
use Rattle.ffs_walk.specs.{Rests.most_steps_left, Windows.{BlocksHold, HasRoom}}
use Rattle.ffs_base_tests.proofs.walk.steps.Given as goal

abbrev pub invariant-loop-found : goal.invariant-loop-found
invariant-loop-found g l = record {
  geometry : l.walk.geometry ≡ l.geometry;
  device : g.I.Image.device l.image ≡ g.I.Image.device l.initial.image;
  room : HasRoom l.geometry.layout l.blocks;
  holds : BlocksHold l.geometry.layout (g.I.Image.device l.initial.image).contents l.blocks;
}

abbrev pub decreases-loop-found : goal.decreases-loop-found
decreases-loop-found g l = most_steps_left l.walk
