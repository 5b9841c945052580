use Rattle.std.proofs.Common.{◌≡◌, ◌≤◌, ◌<◌, ◌+◌}
use Rattle.ffs_image.specs.Device.{ForContents}
use Rattle.ffs_names.specs.{Costs.HoldsEntries, Costs.reads_for_entries, Readings.CountsEach, Shapes.has_right_shape}
use Rattle.ffs_names.specs.{Entering.{to_come, most_to_come, IsInside, IsHeldIfLeft}, Leaves.most_left, Windows.CanReadChunks}
use Rattle.ffs_names.proofs.entries.Entries.advance.Given as goal

abbrev pub invariant-chunks : goal.invariant-chunks
invariant-chunks g l = record {
  entries : ForContents (g.I.Image.device l.fn.image).contents (λ b. to_come b l.self ≡ to_come b l.fn.self);
  shape : ForContents (g.I.Image.device l.fn.image).contents
      (λ b. has_right_shape b l.self ≡ has_right_shape b l.fn.self);
  place : ForContents (g.I.Image.device l.fn.image).contents (λ b. IsHeldIfLeft b l.fn.self → IsHeldIfLeft b l.self);
  inside : (l.fn.self.place < 512 → IsInside l.fn.self) → l.self.place < 512 → IsInside l.self;
  reads : HoldsEntries l.fn.blocks l.fn.window l.fn.self → ForContents (g.I.Image.device l.fn.image).contents
      (λ b. (g.I.Image.reads l.image + reads_for_entries b l.self
      ≤ g.I.Image.reads l.fn.image + reads_for_entries b l.fn.self) × HoldsEntries l.blocks l.window l.self);
  any : g.I.Image.reads l.image + most_left l.self.chunks
      ≤ g.I.Image.reads l.fn.image + most_left l.fn.self.chunks;
  left : most_to_come l.self ≤ most_to_come l.fn.self;
  runs : l.fn.self.chunks.runs ≤ l.self.chunks.runs;
  each : ForContents (g.I.Image.device l.fn.image).contents (λ b. CountsEach b l.fn.self.chunks l.self.chunks);
  geometry : l.self.chunks.walk.geometry ≡ l.fn.self.chunks.walk.geometry;
  ready : CanReadChunks l.fn.self.chunks.walk.geometry.layout (g.I.Image.device l.image) l.blocks l.window;
  device : g.I.Image.device l.image ≡ g.I.Image.device l.fn.image;
}

abbrev pub decreases-chunks : goal.decreases-chunks
decreases-chunks g l = l.self.chunks.chunks_left
