-- The replay of an inode that is walked again.
use Rattle.std.specs.Prelude.{◌≡◌, ℕ, Bool, ◌==◌, if◌then◌else◌, Option}
use Rattle.ffs_volume.specs.declared.{constants.TheConstants.MAXBAD, Layout.Layout, Step.{Step, TheVariants.Run}}
use Rattle.ffs_volume.specs.{Disk.Areas.is_run_in_range, Encodings.Replay.{Replay, fresh_replay, is_replayed, taken_of}}
use Rattle.ffs_volume.specs.Encodings.ReplayCounts.{replay_step_by_cut}
use Rattle.ffs_walk.specs.declared.keeping.Keeping.{Keeping}

-- the bad Runs and the kept offers of an inode so far
abbrev pub replay_in : Keeping → Replay
replay_in k = record { bad = k.bad; kept = k.kept }

-- how many offers of a Run that is seen are kept: the first ones; the eleventh bad Run offers nothing
abbrev pub run_taken : (v : Layout) (cut : ℕ) (r : Replay) (start len : ℕ) → ℕ
run_taken v cut r start len =
    if is_run_in_range v start len
    then taken_of cut r.kept len
    else (if r.bad == MAXBAD then 0 else taken_of cut r.kept len)

-- a step is replayed: whether it is kept, and the replay after it
pub record Replays (v : Layout) (step : Step) (keeps : Bool) (old new : Keeping) : Type 0 where
  pub kept : keeps ≡ is_replayed v old.cut (replay_in old) step
  pub after : replay_in new ≡ replay_step_by_cut v old.cut (replay_in old) step

-- the replay of an inode with this cut, before its first step
pub record IsFreshKeeping (cut_now : ℕ) (k : Keeping) : Type 0 where
  pub cut : k.cut ≡ cut_now
  pub fresh : replay_in k ≡ fresh_replay

-- a Run of so many fragments, in range or not, is replayed, wherever it is: so many of its offers are
-- kept, and it is kept where all are
pub record ReplaysRun (len : ℕ) (in_range : Bool) (old new : Keeping) (taken : ℕ) : Type 0 where
  pub count : (v : Layout) (start : ℕ) → in_range ≡ is_run_in_range v start len
      → taken ≡ run_taken v old.cut (replay_in old) start len
  pub replays : (v : Layout) (start : ℕ) (block : Option ℕ) → in_range ≡ is_run_in_range v start len
      → Replays v (Run start len block) (taken == len) old new
  pub cut : new.cut ≡ old.cut
