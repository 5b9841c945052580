use Rattle.std.proofs.Common.{◌≡◌, ◌+◌, ◌≤◌}
use Rattle.ffs_image.specs.Device.{ForContents}
use Rattle.ffs_walk.specs.{Counts.{AreHeld, unread}, SeenRuns.seen_runs_left, Rests.{IsOver, most_steps_left}, Windows.KeepsBlocks}
use Rattle.ffs_walk.proofs.seen_runs.SeenRuns.next.Given as goal

abbrev pub invariant-loop-step : goal.invariant-loop-step
invariant-loop-step g l =
    let begun = l.initial.self in
    let d = g.I.Image.device l.initial.image in
    record {
      keeping : l.self.keeping ≡ begun.keeping;
      geometry : l.self.walk.geometry ≡ begun.walk.geometry;
      image : g.I.Image.device l.image ≡ d;
      blocks : KeepsBlocks begun.walk.geometry.layout d.contents l.initial.blocks l.blocks;
      left : ForContents d.contents (λ bytes. seen_runs_left bytes begun ≡ seen_runs_left bytes l.self);
      falls : most_steps_left l.self.walk ≤ most_steps_left begun.walk;
      held : AreHeld l.initial.blocks begun.walk → AreHeld l.blocks l.self.walk;
      over : IsOver begun.walk → IsOver l.self.walk × (g.I.Image.reads l.image ≡ g.I.Image.reads l.initial.image);
      any : g.I.Image.reads l.image + most_steps_left l.self.walk
          ≤ g.I.Image.reads l.initial.image + most_steps_left begun.walk;
      paid : AreHeld l.initial.blocks begun.walk → g.I.Image.reads l.image + unread l.self.walk
          ≤ g.I.Image.reads l.initial.image + unread begun.walk;
    }

abbrev pub decreases-loop-step : goal.decreases-loop-step
decreases-loop-step g l = most_steps_left l.self.walk
