use Rattle.std.proofs.Common.{◌≡◌, ◌+◌, ◌<◌, ◌≤◌, ◌^◌, length}
use Rattle.ffs_volume.specs.{Blocks.Steps.steps_of, Encodings.{Replay.fresh_replay, ReplayCounts.replayed_runs}}
use Rattle.ffs_image.specs.{Device.ForContents, Known.IsContents}
use Rattle.ffs_walk.specs.{Counts.{AreHeld, unread}, SeenRuns.seen_runs_left, Rests.most_steps_left, Windows.KeepsBlocks}
use Rattle.ffs_finding.specs.{Keepers.{lines_of_runs, sought_lines}, Outcome.PrintedOf}
use Rattle.ffs_finding.proofs.owner.find_kept_offers.Given as goal

abbrev pub invariant-loop-run : goal.invariant-loop-run
invariant-loop-run g l =
    let v = l.geometry.layout in
    let d = g.I.Image.device l.fn.image in
    record {
      device : g.I.Image.device l.image ≡ d;
      geometry : l.runs.walk.geometry ≡ l.geometry;
      blocks : KeepsBlocks v d.contents l.fn.blocks l.blocks;
      held : AreHeld l.blocks l.runs.walk;
      room : l.earlier + most_steps_left l.runs.walk < 2 ^ 62;
      paid : ForContents d.contents (λ b. g.I.Image.reads l.image + unread l.runs.walk
          + length (seen_runs_left b l.runs)
          ≤ g.I.Image.reads l.fn.image + replayed_runs v l.sought.cut fresh_replay (steps_of v l.inode b));
      printed : PrintedOf (IsContents d.contents)
          (λ b. lines_of_runs l.sought.fragment l.sought.number l.earlier (seen_runs_left b l.runs))
          (λ b. sought_lines v l.sought (steps_of v l.inode b)) (g.W.Output.sink l.fn.out) (g.W.Output.sink l.out);
    }

abbrev pub decreases-loop-run : goal.decreases-loop-run
decreases-loop-run g l = most_steps_left l.runs.walk
