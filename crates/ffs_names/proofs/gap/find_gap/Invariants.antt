use Rattle.std.proofs.Common.{◌≡◌, ◌≤◌, ◌+◌, ◌||◌}
use Rattle.ffs_image.specs.Device.{ForContents}
use Rattle.ffs_walk.specs.{Rests.most_steps_left, declared.window.Window.Window}
use Rattle.ffs_names.specs.{Costs.{HoldsReading, to_read}, Readings.{CountsEach, IsSame, ahead, gap_left}}
use Rattle.ffs_names.specs.Windows.{CanWalkDir}
use Rattle.ffs_names.proofs.gap.find_gap.Given as goal

abbrev pub invariant-runs : goal.invariant-runs
invariant-runs g l = let device = g.I.Image.device in record {
  same : device l.image ≡ device l.initial.image;
  kept : IsSame l.initial.chunks l.chunks;
  each : ForContents (device l.initial.image).contents (λ b. CountsEach b l.initial.chunks l.chunks);
  ready : CanWalkDir l.initial.chunks.walk.geometry.layout (device l.image) l.blocks;
  any : g.I.Image.reads l.image + most_steps_left l.chunks.walk
      ≤ g.I.Image.reads l.initial.image + most_steps_left l.initial.chunks.walk;
  gap : ForContents (device l.initial.image).contents (λ b.
      (l.initial.chunks.gap || gap_left b l.initial.chunks) ≡ (l.chunks.gap || gap_left b l.chunks));
  reads : (w : Window) → HoldsReading l.initial.blocks w l.initial.chunks → ForContents (device l.initial.image).contents
      (λ b. (g.I.Image.reads l.image + to_read b l.chunks ≤ g.I.Image.reads l.initial.image + to_read b l.initial.chunks)
      × HoldsReading l.blocks w l.chunks);
}

abbrev pub decreases-runs : goal.decreases-runs
decreases-runs g l = ahead l.chunks
