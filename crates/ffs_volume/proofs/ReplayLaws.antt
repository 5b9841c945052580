-- Laws of `specs/Encodings/ReplayCounts`.
use Rattle.std.proofs.Common.{zero, suc, ◌≡◌, ℕ, ◌+◌, ◌≤◌, arith, refl, List, [], ◌∷◌, ◌++◌, replicate}
use Rattle.ffs_volume.proofs.ReplayIsKeeping.{replay_of, replayed_step_offers, replayed_offers, seen_replays}
use Rattle.ffs_volume.{proofs.ReplayIsKeeping.{step_replays, step_few}, specs.Blocks.Claims.{Claims, at_next_inode}}
use Rattle.ffs_volume.specs.{Blocks.Claims.{after_offers, after_step, after_steps}, declared.Step.Step}
use Rattle.ffs_volume.{proofs.Potentials.offers_keep, specs.Encodings.Replay.{Replay, fresh_replay, cut_of}}
use Rattle.ffs_volume.specs.Encodings.{Replay.{replay_after_step, is_replayed, replayed_steps}, ReplayCounts.seen_run}
use Rattle.ffs_volume.specs.{Encodings.ReplayCounts.{replayed_runs, replay_step_by_cut}, declared.Layout.Layout}
use Rattle.ffs_volume.specs.declared.Step.TheVariants.{Run, Tail, Gap}

-- two replays that keep the same steps and offers and see as many Runs
pub record SameReplay (v : Layout) (i cut : ℕ) (r q : Replay) (steps : List Step) : Type 0 where
  pub steps_are : replayed_steps v cut r steps ≡ replayed_steps v cut q steps
  pub offers_are : replayed_offers v i cut r steps ≡ replayed_offers v i cut q steps
  pub runs_are : replayed_runs v cut r steps ≡ replayed_runs v cut q steps

-- gaps in a row have no Run
pub gaps_seen : (v : Layout) (cut : ℕ) (r : Replay) (n : ℕ) (steps : List Step) →
    replayed_runs v cut r (replicate n Gap ++ steps) ≡ replayed_runs v cut r steps
gaps_seen v cut r zero steps = refl
gaps_seen v cut r (suc n) steps = omega (arith, gaps_seen v cut r n steps)

-- offers are no Runs
pub offers_runs : (v : Layout) (s : Claims) (fs : List ℕ) → (after_offers v s fs).runs ≡ s.runs
offers_runs v s fs = (offers_keep v s fs).runs_is

run_offers_of_step : (v : Layout) (s : Claims) (step : Step) (steps : List Step) → s.dup_offers ≤ s.kept
    → (after_step v s step).runs ≡ s.runs + seen_run (cut_of (after_steps v s (step ∷ steps))) (replay_of s) step
run_offers_of_step v s Gap steps few = omega arith
run_offers_of_step v s Tail steps few = grind arith
run_offers_of_step v s (Run start len block) steps few =
    let seen = seen_replays v s (Run start len block ∷ steps) few in grind (arith, offers_runs)

run_offers_of_steps : (v : Layout) (s : Claims) (steps : List Step) → s.dup_offers ≤ s.kept
    → (after_steps v s steps).runs ≡ s.runs + replayed_runs v (cut_of (after_steps v s steps)) (replay_of s) steps
run_offers_of_steps v s [] few = omega arith
run_offers_of_steps v s (step ∷ steps) few =
    let more = run_offers_of_steps v (after_step v s step) steps (step_few v s step few) in
    grind (arith, run_offers_of_step, step_replays)

-- an inode's Runs that are seen are those of the replay
pub replay_is_runs : (v : Layout) (s : Claims) (steps : List Step)
    → (after_steps v (at_next_inode s) steps).runs ≡ s.runs + replayed_runs v (cut_of (after_steps v (at_next_inode s)
    steps))
    fresh_replay steps
replay_is_runs v s steps = run_offers_of_steps v (at_next_inode s) steps (omega arith)

-- what a step does to two replays without a cut that saw as many bad Runs
record Alike (v : Layout) (i : ℕ) (r q : Replay) (step : Step) : Type 0 where
  bad : (replay_after_step v 0 r step).bad ≡ (replay_after_step v 0 q step).bad
  step_is : is_replayed v 0 r step ≡ is_replayed v 0 q step
  offers_are : replayed_step_offers v i 0 r step ≡ replayed_step_offers v i 0 q step
  run_is : seen_run 0 r step ≡ seen_run 0 q step

step_alike : (v : Layout) (i : ℕ) (r q : Replay) (step : Step) → r.bad ≡ q.bad → Alike v i r q step
step_alike v i r q step a = grind arith

alike_same : (v : Layout) (i : ℕ) (r q : Replay) (steps : List Step) → r.bad ≡ q.bad → SameReplay v i 0 r q steps
alike_same v i r q [] a = grind arith
alike_same v i r q (step ∷ steps) a =
    let one = step_alike v i r q step a in
    let more = alike_same v i (replay_after_step v 0 r step) (replay_after_step v 0 q step) steps one.bad in
    grind arith

-- a replay continues in the same way from the kept offers that are counted only where there is a cut
pub counted_same : (v : Layout) (i cut : ℕ) (r : Replay) (step : Step) (steps : List Step) →
    SameReplay v i cut (replay_after_step v cut r step) (replay_step_by_cut v cut r step) steps
counted_same v i zero r step steps =
    alike_same v i (replay_after_step v 0 r step) (replay_step_by_cut v 0 r step) steps (grind arith)
counted_same v i (suc cut) r step steps = grind arith
