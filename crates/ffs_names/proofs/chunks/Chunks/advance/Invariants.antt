use Rattle.std.proofs.Common.{◌≡◌, ◌⊎◌, ◌<◌, ◌≤◌, ◌+◌}
use Rattle.ffs_image.specs.Device.{ForContents}
use Rattle.ffs_walk.specs.{Rests.most_steps_left, declared.window.Window.Window}
use Rattle.ffs_names.specs.{Costs.{HoldsReading, to_read}, Windows.CanWalkDir, Readings.{ahead, ContinuesTo, IsSame}}
use Rattle.ffs_names.specs.RunCursors.{IsWhole}
use Rattle.ffs_names.proofs.chunks.Chunks.advance.Given as goal

abbrev pub invariant-steps : goal.invariant-steps
invariant-steps g l = let device = g.I.Image.device in record {
  continues : ForContents (device l.fn.image).contents (λ b. ContinuesTo b l.fn.self l.self);
  same : IsSame l.fn.self l.self;
  ready : CanWalkDir l.fn.self.walk.geometry.layout (device l.image) l.blocks;
  device : device l.image ≡ device l.fn.image;
  any : g.I.Image.reads l.image + most_steps_left l.self.walk
      ≤ g.I.Image.reads l.fn.image + most_steps_left l.fn.self.walk;
  fewer : most_steps_left l.self.walk ≤ most_steps_left l.fn.self.walk;
  falls : l.self.run_cursor.next < l.self.run_cursor.count → most_steps_left l.self.walk < ahead l.fn.self;
  run : (l.self.run_cursor ≡ l.fn.self.run_cursor) ⊎ IsWhole l.self.run_cursor;
  held : (w : Window) → HoldsReading l.fn.blocks w l.fn.self → HoldsReading l.blocks w l.self;
  reads : (w : Window) → HoldsReading l.fn.blocks w l.fn.self → ForContents (g.I.Image.device l.fn.image).contents
      (λ b. g.I.Image.reads l.image + to_read b l.self ≤ g.I.Image.reads l.fn.image + to_read b l.fn.self);
}

abbrev pub decreases-steps : goal.decreases-steps
decreases-steps g l = most_steps_left l.self.walk
