-- The Runs of an inode that is walked over again, one after another.
use Rattle.std.proofs.Common.{◌≡◌, ◌≤◌, ◌∙◌, ℕ, zero, suc, true, false, List, [], ◌∷◌, ◌++◌, arith, refl}
use Rattle.std.proofs.Common.{None, Some, Option, length, replicate, ap}
use Rattle.ffs_volume.specs.declared.{Layout.Layout, Step.{Step, TheVariants.{Run, Gap, Tail}}}
use Rattle.ffs_volume.specs.Encodings.Replay.{Replay, is_replay_open, replay_after_step}
use Rattle.ffs_volume.specs.Encodings.ReplayCounts.{replay_step_by_cut, replayed_runs}
use Rattle.ffs_walk.specs.{Keepings.run_taken, SeenRuns.{indirect_by, seen_runs, step_run}}

-- after the cut no Run is seen, and gaps in a row are none
pub closed_runs : (v : Layout) (cut : ℕ) (r : Replay) (steps : List Step) → is_replay_open cut r ≡ false →
    seen_runs v cut r steps ≡ []
unfolding seen_runs
closed_runs v cut r [] shut = refl
closed_runs v cut r (Run start len block ∷ steps) shut = rw shut (closed_runs v cut r steps shut)
closed_runs v cut r (other ∷ steps) shut = closed_runs v cut r steps shut

gaps_kept : (v : Layout) (cut : ℕ) (r : Replay) (n : ℕ) (steps : List Step) →
    seen_runs v cut r (replicate n Gap ++ steps) ≡ seen_runs v cut r steps
unfolding seen_runs
gaps_kept v cut r zero steps = refl
gaps_kept v cut r (suc n) steps = gaps_kept v cut r n steps

-- without a cut the count of kept offers changes nothing
uncut_runs : (v : Layout) (r q : Replay) (steps : List Step) → r.bad ≡ q.bad →
    seen_runs v 0 r steps ≡ seen_runs v 0 q steps
unfolding seen_runs
uncut_runs v r q [] same = refl
uncut_runs v r q (step ∷ steps) same =
    let more = uncut_runs v (replay_after_step v 0 r step) (replay_after_step v 0 q step) steps (grind arith) in
    let one : step_run v 0 r step ≡ step_run v 0 q step = grind arith in
    grind arith

-- the Runs after a step are those of the replay that counts kept offers only where there is a cut
by_cut_runs : (v : Layout) (cut : ℕ) (r : Replay) (step : Step) (steps : List Step) →
    seen_runs v cut (replay_after_step v cut r step) steps ≡ seen_runs v cut (replay_step_by_cut v cut r step) steps
by_cut_runs v zero r step steps = uncut_runs v _ _ steps (grind arith)
by_cut_runs v (suc cut) r step steps = grind arith

runs_next : (v : Layout) (cut : ℕ) (r : Replay) (step : Step) (steps : List Step) →
    seen_runs v cut r (step ∷ steps) ≡ step_run v cut r step ++ seen_runs v cut (replay_step_by_cut v cut r step) steps
unfolding seen_runs
runs_next v cut r step steps = ap (λ runs. step_run v cut r step ++ runs) (by_cut_runs v cut r step steps)

-- a Run that is next in a walk is given; of a Tail, and of gaps, none is
pub run_left : (v v' : Layout) (cut cut' : ℕ) (r r' : Replay) (start len taken : ℕ) (block : Option ℕ)
    (R R' : List Step) → v' ≡ v → R ≡ Run start len block ∷ R' → is_replay_open cut r ≡ true →
    taken ≡ run_taken v' cut r start len → r' ≡ replay_step_by_cut v' cut r (Run start len block) → cut' ≡ cut →
    seen_runs v cut r R ≡ record { start = start; kept = taken; block = block } ∷ seen_runs v' cut' r' R'
run_left v v' cut cut' r r' start len taken block R R' same e going some after stays =
    rw (some, after, stays, same, e) (runs_next v cut r (Run start len block) R' ∙ rw going refl)

pub tail_left : (v v' : Layout) (cut : ℕ) (r : Replay) (R R' : List Step) → v' ≡ v → R ≡ Tail ∷ R' →
    seen_runs v cut r R ≡ seen_runs v' cut r R'
unfolding seen_runs
tail_left v v' cut r R R' same e = rw (same, e) refl

pub gaps_left : (v v' : Layout) (cut : ℕ) (r : Replay) (n : ℕ) (R R' R'' : List Step) → v' ≡ v → R ≡ Gap ∷ R' →
    R' ≡ replicate n Gap ++ R'' → seen_runs v cut r R ≡ seen_runs v' cut r R''
gaps_left v v' cut r n R R' R'' same e passed = rw (same, e, passed) (gaps_kept v cut r (suc n) R'')

-- none is left after the last step
pub none_left : (v : Layout) (cut : ℕ) (r : Replay) (R : List Step) → R ≡ [] → seen_runs v cut r R ≡ []
unfolding seen_runs
none_left v cut r R e = rw e refl

-- they are as many as the replay counts
pub runs_counted : (v : Layout) (cut : ℕ) (r : Replay) (steps : List Step) →
    length (seen_runs v cut r steps) ≡ replayed_runs v cut r steps
unfolding seen_runs
runs_counted v cut r [] = refl
runs_counted v cut r (step ∷ steps) =
    let more = runs_counted v cut (replay_after_step v cut r step) steps in grind arith

-- a Run is that of one indirect block at most
pub indirect_most : (block : Option ℕ) → indirect_by block ≤ 1
indirect_most None = omega arith
indirect_most (Some block) = omega arith
