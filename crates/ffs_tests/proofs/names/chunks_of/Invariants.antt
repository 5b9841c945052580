use Rattle.std.proofs.Common.{◌≡◌}
use Rattle.ffs_names.specs.Windows.{CanReadChunks}
use Rattle.ffs_tests.proofs.names.chunks_of.Given as goal

abbrev pub invariant-chunks : goal.invariant-chunks
invariant-chunks g l = record {
  geometry : l.chunks.walk.geometry ≡ l.geometry;
  device : g.I.Image.device l.image ≡ g.I.Image.device l.initial.image;
  ready : CanReadChunks l.geometry.layout (g.I.Image.device l.image) l.blocks l.window;
}

abbrev pub decreases-chunks : goal.decreases-chunks
decreases-chunks g l = l.chunks.chunks_left
