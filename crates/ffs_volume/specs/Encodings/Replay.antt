-- Walking over an inode again, without a map of claims, and finding its kept steps. It is enough to
-- know how many offers it kept, where dup offers cut it (`cut_of`); bad Runs are counted anew. Which
-- offers are kept `Blocks/KeptByRule` says by one rule: read that for the meaning, and then this
-- replay. That of `ReplayCounts` differs only where there is no cut; contracts of phase 1b cite it.
use Rattle.std.{proofs.Common.{ℕ, ◌+◌, ◌-◌, Bool, List, [], ◌∷◌, ◌++◌}, specs.Prelude.{nat_lt, ◌&&◌, ◌||◌, ◌==◌, min}}
use Rattle.std.specs.Prelude.{if◌then◌else◌}
use Rattle.ffs_volume.specs.declared.{constants.TheConstants.{MAXBAD, MAXDUP}, Layout.Layout, Step.Step}
use Rattle.ffs_volume.specs.{declared.Step.TheVariants.{Run, Tail, Gap}, Disk.Areas.is_run_in_range}
use Rattle.ffs_volume.specs.Blocks.{Owners.owner_of, Claims.{Claims, after_owner}, KeptSteps.claims_before}
use Rattle.ffs_volume.specs.Directories.Volumes.{is_inode_number}

-- the bad Runs of an inode and its kept offers so far; both are 0 at first (`fresh_replay`)
pub record Replay : Type 0 where
  pub bad : ℕ
  pub kept : ℕ

-- the state before the first step of an inode
abbrev pub fresh_replay : Replay
fresh_replay = record { bad = 0; kept = 0 }

-- the cut of an inode that ends in this state: the number of its kept offers where its eleventh dup
-- offer cut it, else 0. No cut is 0, since it is 11 at least
abbrev pub cut_of : Claims → ℕ
cut_of end = if nat_lt end.dup_offers (MAXDUP + 1) then 0 else end.kept

-- the next step is seen
abbrev pub is_replay_open : ℕ → Replay → Bool
is_replay_open cut r = nat_lt r.bad (MAXBAD + 1) && ((cut == 0) || nat_lt r.kept cut)

-- how many of the next `len` offers are kept, where `kept` offers were kept before them
abbrev pub taken_of : (cut kept len : ℕ) → ℕ
taken_of cut kept len = if cut == 0 then len else min len (cut - kept)

-- the state after a Run is seen; the eleventh bad Run offers nothing
abbrev pub replay_after_run : (v : Layout) (cut : ℕ) (r : Replay) (start len : ℕ) → Replay
replay_after_run v cut r start len =
    if is_run_in_range v start len
    then record { bad = r.bad; kept = r.kept + taken_of cut r.kept len }
    else (if r.bad == MAXBAD
    then record { bad = r.bad + 1; kept = r.kept }
    else record { bad = r.bad + 1; kept = r.kept + taken_of cut r.kept len })

-- the state after a step
abbrev pub replay_after_step : Layout → ℕ → Replay → Step → Replay
replay_after_step v cut r (Run start len block) = if is_replay_open cut r then replay_after_run v cut r start len else r
replay_after_step v cut r Tail = r
replay_after_step v cut r Gap = r

-- the step is kept: a Run where all its offers are, a Tail or Gap where it is seen
abbrev pub is_replayed : Layout → ℕ → Replay → Step → Bool
is_replayed v cut r (Run start len block) =
    is_replay_open cut r && (replay_after_step v cut r (Run start len block)).kept == r.kept + len
is_replayed v cut r Tail = is_replay_open cut r
is_replayed v cut r Gap = is_replay_open cut r

-- the steps that are kept
abbrev pub replayed_steps : Layout → ℕ → Replay → List Step → List Step
replayed_steps v cut r [] = []
replayed_steps v cut r (step ∷ steps) =
    (if is_replayed v cut r step then step ∷ [] else [])
    ++ replayed_steps v cut (replay_after_step v cut r step) steps

-- the cut of the inode x, at most 2^32 - 1, as the program stores it in 32 bits; 0 where x is no
-- inode's number
abbrev pub cut_at : (v : Layout) (image : List ℕ) (x : ℕ) → ℕ
cut_at v image x =
    if is_inode_number v x
    then min (cut_of (after_owner v (claims_before v image x) (owner_of v image x))) 4294967295
    else 0
