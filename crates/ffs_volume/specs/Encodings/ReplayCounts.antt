-- How many Runs a replay sees, and a replay that counts kept offers only where there is a cut.
use Rattle.std.{proofs.Common.{ℕ, ◌+◌, ◌-◌, List, [], ◌∷◌}, specs.Prelude.{◌==◌, min, if◌then◌else◌}}
use Rattle.ffs_volume.specs.declared.{constants.TheConstants.MAXBAD, Layout.Layout, Step.{Step, TheVariants.Run}}
use Rattle.ffs_volume.specs.{declared.Step.TheVariants.{Tail, Gap}, Disk.Areas.is_run_in_range, Encodings.Replay.Replay}
use Rattle.ffs_volume.specs.Encodings.Replay.{is_replay_open, replay_after_step}

-- 1 for a Run that is seen, else 0
abbrev pub seen_run : ℕ → Replay → Step → ℕ
seen_run cut r (Run start len block) = if is_replay_open cut r then 1 else 0
seen_run cut r Tail = 0
seen_run cut r Gap = 0

-- how many Runs of some steps are seen
abbrev pub replayed_runs : Layout → ℕ → Replay → List Step → ℕ
replayed_runs v cut r [] = 0
replayed_runs v cut r (step ∷ steps) = seen_run cut r step + replayed_runs v cut (replay_after_step v cut r step) steps

-- the kept offers after a Run, as the program counts them: up to the cut. With the cut 0 the count
-- stays as it is, since no answer depends on it: `is_replay_open` doesn't read it then, and
-- `is_replayed` asks only by how much a Run would raise it
abbrev pub kept_by_cut : (cut kept len : ℕ) → ℕ
kept_by_cut cut kept len = if cut == 0 then kept else kept + min len (cut - kept)

-- `replay_after_run` with kept offers as `kept_by_cut` counts them
abbrev pub replay_run_by_cut : (v : Layout) (cut : ℕ) (r : Replay) (start len : ℕ) → Replay
replay_run_by_cut v cut r start len =
    if is_run_in_range v start len
    then record { bad = r.bad; kept = kept_by_cut cut r.kept len }
    else (if r.bad == MAXBAD
    then record { bad = r.bad + 1; kept = r.kept }
    else record { bad = r.bad + 1; kept = kept_by_cut cut r.kept len })

-- `replay_after_step` in the same way: the state that the program has after a step
abbrev pub replay_step_by_cut : Layout → ℕ → Replay → Step → Replay
replay_step_by_cut v cut r (Run start len block) =
    if is_replay_open cut r then replay_run_by_cut v cut r start len else r
replay_step_by_cut v cut r Tail = r
replay_step_by_cut v cut r Gap = r
