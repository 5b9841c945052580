use Rattle.std.proofs.Common.{◌≡◌, ℕ, ◌<◌, ◌≤◌, ◌+◌, ◌*◌, List, Some, Ok}
use Rattle.ffs_volume.specs.Directories.Graph.{level}
use Rattle.ffs_paths.{specs.Reads.{ForTree, EachTakesAtMost, KnowsPlaces, OnlyReads}, proofs.{Climbed.HasClimbed, WaysUp.IsOnWay}}
use Rattle.ffs_workspace.specs.Found.{WithSurvey}
use Rattle.ffs_paths.proofs.path.climb.Given as goal

abbrev pub invariant-up : goal.invariant-up
invariant-up g l = let device = g.I.Image.device in record {
  at : l.at < l.geometry.layout.ncg * l.geometry.layout.ipg;
  reads : OnlyReads {T = Unit {0}} l.geometry.layout (device l.fn.image) (device l.image) l.fn.workspace l.workspace
      (Ok tt);
  path : ForTree l.geometry.layout (device l.fn.image) l.fn.workspace
      (λ tree. (k : ℕ) → level tree l.dir ≡ Some k → IsOnWay tree k l.dir l.at l.step l.path);
  counted : (b : List ℕ) → KnowsPlaces l.geometry.layout (device l.fn.image).contents l.fn.workspace b
      → HasClimbed l.step (g.I.Image.reads l.fn.image) (g.I.Image.reads l.image) l.fn.workspace l.workspace l.path;
  searched : (b : List ℕ) (n : ℕ) → WithSurvey l.geometry.layout (device l.fn.image) l.fn.workspace b
      → EachTakesAtMost n l.geometry.layout b
      → g.I.Image.reads l.image ≤ g.I.Image.reads l.fn.image + l.step * (1 + n);
}
