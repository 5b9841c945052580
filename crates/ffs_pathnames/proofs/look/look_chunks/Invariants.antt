use Rattle.std.{proofs.Common.{◌≡◌, ◌<◌, ◌^◌, ◌&&◌, ◌||◌, ◌+◌, ◌≤◌, ◌==◌}, specs.List.{flat_map, find}}
use Rattle.ffs_image.specs.Device.{ForContents}
use Rattle.ffs_volume.specs.Directories.{Roles.roled_chunk, PathnameCheck.are_sound, Entries.has_gap, Volumes.volume_of}
use Rattle.ffs_volume.specs.{Blocks.Steps.steps_of, Encodings.Replay.{fresh_replay, replayed_steps}}
use Rattle.ffs_volume.specs.Encodings.ReplayCounts.{replayed_runs}
use Rattle.ffs_names.specs.{Windows.CanReadChunks, Readings.{rest, gap_left}, Costs.{to_read, HoldsReading}}
use Rattle.ffs_pathnames.specs.{PassedNames.{are_quiet, after_looks}, Stamps.{KeepsWords, stamps_of}, Sees.passed_of}
use Rattle.ffs_pathnames.{specs.StartChunks.start_chunk, proofs.SeesLaws.chunks_read}
use Rattle.ffs_workspace.specs.Holds.{HoldsBlockCheck, HoldsSurvey}
use Rattle.ffs_pathnames.proofs.look.look_chunks.Given as goal

abbrev pub invariant-chunks : goal.invariant-chunks
invariant-chunks g l =
    let device = g.I.Image.device in
    let v = l.geometry.layout in
    let x = l.directory in
    let of_bytes = ForContents (device l.initial.image).contents in
    let w = l.fn.workspace in
    let before = (passed_of w).stamps in
    let now = stamps_of w.parents.items l.words.items in
    let all = chunks_read v x.inode l.cut in
    record {
      same : device l.image ≡ device l.initial.image;
      geometry : l.chunks.walk.geometry ≡ l.geometry;
      words : KeepsWords l.initial.words l.words;
      others : l.windows ≡ record l.initial.windows { blocks = l.windows.blocks; current = l.windows.current };
      ready : CanReadChunks v (device l.image) l.windows.blocks l.windows.current;
      quiet : of_bytes (λ b. HoldsBlockCheck v b w → HoldsSurvey v b w → x.inode.size < 2 ^ 31 →
          are_quiet (volume_of v b) x.number w.flags.items before (flat_map roled_chunk (all b))
          ≡ (l.quiet && are_quiet (volume_of v b) x.number w.flags.items now (flat_map roled_chunk (rest b l.chunks))));
      stamps : of_bytes (λ b. HoldsBlockCheck v b w → HoldsSurvey v b w → x.inode.size < 2 ^ 31 →
          after_looks (volume_of v b) x.number before (flat_map roled_chunk (all b))
          ≡ after_looks (volume_of v b) x.number now (flat_map roled_chunk (rest b l.chunks)));
      sound : of_bytes (λ b. x.inode.size < 2 ^ 31 → are_sound (all b) ≡ (l.sound && are_sound (rest b l.chunks)));
      gap : of_bytes (λ b. has_gap (replayed_steps v l.cut fresh_replay (steps_of v x.inode b))
          ≡ (l.chunks.gap || gap_left b l.chunks));
      started : of_bytes (λ b. x.inode.size < 2 ^ 31 →
          find (λ c. c.offset == 0) (all b) ≡ start_chunk (rest b l.chunks) l.started l.order l.start);
      held : of_bytes (λ b. HoldsReading l.windows.blocks l.windows.current l.chunks);
      reads : of_bytes (λ b. g.I.Image.reads l.image + to_read b l.chunks
          ≤ g.I.Image.reads l.initial.image + replayed_runs v l.cut fresh_replay (steps_of v x.inode b));
    }

abbrev pub decreases-chunks : goal.decreases-chunks
decreases-chunks g l = l.chunks.chunks_left
