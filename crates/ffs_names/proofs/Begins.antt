-- A reading of a directory begins.
use Rattle.std.proofs.Common.{◌≡◌, ℕ, ◌+◌, ◌/◌, ◌<◌, ◌^◌, Bool, true, false, if◌then◌else◌, List, [], ◌∷◌, ◌++◌, take}
use Rattle.std.proofs.{Common.{Some, None, arith, length, take_all}, lemmas.Nat.le-div}
use Rattle.ffs_volume.proofs.{StepLaws.{Within, within_lower, steps_within}, ChunkLaws.chunks_few}
use Rattle.ffs_volume.specs.declared.{Inode.Inode, Layout.Layout, Step.{Step, TheVariants.{Run, Tail, Gap}}}
use Rattle.ffs_volume.specs.{Blocks.Steps.steps_of, Directories.Entries.bytes_read, Disk.Areas.is_run_in_range}
use Rattle.ffs_volume.specs.Encodings.Replay.{Replay, fresh_replay, is_replay_open, is_replayed, replay_after_step}
use Rattle.ffs_volume.specs.{Encodings.Replay.replayed_steps, Laws.Geometry.IsAcceptedLayout}
use Rattle.ffs_walk.specs.{Keepings.replay_in, Rests.steps_left}
use Rattle.ffs_names.specs.{RunCursors.{cursor_chunks, reading_by}, declared.chunks.Chunks.Chunks, Readings.BeginsAt}
use Rattle.ffs_names.specs.Readings.{chunks_in}

-- the steps of a replay come in the order of their blocks
kept_within : (frag low high : ℕ) (step : Step) (steps : List Step) (kept : Bool) → Within frag low high (step ∷ steps) →
    Within frag low high steps → Within frag low high ((if kept then step ∷ [] else []) ++ steps)
kept_within frag low high step steps true with_it w = with_it
kept_within frag low high step steps false with_it w = w

within_replayed : (v : Layout) (cut : ℕ) (r : Replay) (frag low high : ℕ) (steps : List Step) →
    Within frag low high steps → Within frag low high (replayed_steps v cut r steps)
within_replayed v cut r frag low high [] w = w
within_replayed v cut r frag low high (Run start len (Some block) ∷ steps) w =
    let step = Run start len (Some block) in
    let more = within_replayed v cut (replay_after_step v cut r step) frag (block + 1) high steps w.2 in
    let above = w.0 in
    let rest = replayed_steps v cut (replay_after_step v cut r step) steps in
    kept_within frag low high step rest (is_replayed v cut r step) (w.0, w.1, more)
    (within_lower frag low (block + 1) high rest (omega arith) more)
within_replayed v cut r frag low high (Run start len None ∷ steps) w =
    let step = Run start len None in
    let more = within_replayed v cut (replay_after_step v cut r step) frag low high steps w.1 in
    kept_within frag low high step (replayed_steps v cut (replay_after_step v cut r step) steps)
    (is_replayed v cut r step) (w.0, more) more
within_replayed v cut r frag low high (Tail ∷ steps) w =
    let more = within_replayed v cut r frag low high steps w in
    kept_within frag low high Tail (replayed_steps v cut r steps) (is_replay_open cut r) more more
within_replayed v cut r frag low high (Gap ∷ steps) w =
    let more = within_replayed v cut r frag low high steps w in
    kept_within frag low high Gap (replayed_steps v cut r steps) (is_replay_open cut r) more more

-- so there are at most as many chunks as are read
pub all_taken : (v : Layout) (i : Inode) (b : List ℕ) (cut : ℕ) → IsAcceptedLayout v →
    take (bytes_read i.size / 512) (chunks_in v b i cut) ≡ chunks_in v b i cut
all_taken v i b cut g =
    let w = steps_within v i b g in
    let kept = within_replayed v cut fresh_replay v.frag 0 w.0 (steps_of v i b) w.1 in
    let few = chunks_few (reading_by v b (bytes_read i.size)) (is_run_in_range v) v.frag 0 w.0
    (replayed_steps v cut fresh_replay (steps_of v i b)) (omega (arith, g.sizes.block)) kept in
    take_all _ _ (le-div (length (chunks_in v b i cut)) (bytes_read i.size) 512 (omega arith) (omega arith))

pub begins_at : {v : Layout} {i : Inode} {cut : ℕ} {c : Chunks} → IsAcceptedLayout v → c.walk.geometry.layout ≡ v → ((b
    : List ℕ) → steps_left b c.walk ≡ steps_of v i b) → c.keeping.cut ≡ cut → replay_in c.keeping ≡ fresh_replay → ((b :
    List ℕ) → cursor_chunks c.walk.geometry.layout b c.run_cursor ≡ []) → (i.size < 2 ^ 31 → c.bytes_to_read ≡
    bytes_read i.size) → c.chunks_left ≡ c.bytes_to_read / 512 → c.runs ≡ 0 → c.gap ≡ false → BeginsAt v i cut c
begins_at {v = v} {i = i} {cut = cut} g layout steps is_cut fresh none bytes chunks_left runs gap = grind (arith, all_taken)
