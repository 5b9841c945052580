use Rattle.std.proofs.Common.{◌≡◌}
use Rattle.ffs_names.specs.{Entering.most_to_come, Windows.CanReadChunks}
use Rattle.ffs_tests.proofs.names.entries_of.Given as goal

abbrev pub invariant-entries : goal.invariant-entries
invariant-entries g l = record {
  geometry : l.entries.chunks.walk.geometry ≡ l.geometry;
  device : g.I.Image.device l.image ≡ g.I.Image.device l.initial.image;
  ready : CanReadChunks l.geometry.layout (g.I.Image.device l.image) l.blocks l.window;
}

abbrev pub decreases-entries : goal.decreases-entries
decreases-entries g l = most_to_come l.entries
