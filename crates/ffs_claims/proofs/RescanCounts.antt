-- An inode replayed by its cut keeps what it kept, and how many Runs the rescan looks at.
use Rattle.std.proofs.Common.{◌≡◌, ℕ, zero, suc, ◌+◌, Bool, true, if◌then◌else◌, List, [], ◌∷◌, ◌++◌, append-nil, map}
use Rattle.std.proofs.Common.{arith, refl, ap, ◌∙◌, sym, inl, inr, eq-eqb, ne_eqb, ◌≤◌, length, nat_lt, None, Some}
use Rattle.std.proofs.{Common.{Option, ◌-◌}, lemmas.{Bool.{cases_eq, cases_Bool}, Grind.flat_map-append}}
use Rattle.std.{proofs.lemmas.List.{length-append, map-append}, specs.List.range_with_len}
use Rattle.ffs_volume.proofs.{Potentials.offers_keep, PrefixLaws.full_offers, ReplayIsKeeping.{replay_of, seen_replays}}
use Rattle.ffs_volume.proofs.{ReplayIsKeeping.{step_replays, step_few}, ReplayLaws.offers_runs}
use Rattle.ffs_volume.specs.Blocks.Claims.{after_offers, Claims, at_next_inode, is_open, after_step, after_steps}
use Rattle.ffs_volume.specs.Blocks.{Claims.{after_owner, after_owners, after_offer, all_claims}, KeptOffers.Offer}
use Rattle.ffs_volume.specs.Blocks.KeptOffers.{offer_of, kept_in_run, kept_in_offers, kept_in_step, kept_in_steps}
use Rattle.ffs_volume.specs.{Blocks.Owners.Owner, Encodings.Replay.{is_replay_open, fresh_replay, cut_of}}
use Rattle.ffs_volume.specs.{Encodings.Replay.replay_after_step, Report.Whole.run_count, declared.Layout.Layout}
use Rattle.ffs_volume.specs.{declared.Step.{Step, TheVariants.{Run, Tail, Gap}}, Blocks.BlockCheck.set_count}
use Rattle.ffs_volume.specs.{Blocks.BlockCheck.unreported_after, Costs.RescanRuns.{run_offers_of_step, runs_until_reported}}
use Rattle.ffs_volume.specs.Costs.RescanRuns.{run_offers_of_steps, run_offers_of_owners, rescan_runs}
use Rattle.ffs_volume.specs.Costs.VolumeReads.{indirect_in_steps, seen_indirect}
use Rattle.ffs_walk.specs.{Keepings.run_taken, SeenRuns.{seen_runs, step_run}, declared.seen_runs.SeenRun.SeenRun}
use Rattle.ffs_claims.{proofs.Reportings.{after_append, none_after}, specs.Rewalking.{indirect_among, offers_of_runs}}
use Rattle.ffs_claims.specs.Rewalking.{run_offers}

-- ---- the offers that are kept are the first ones
offers_firsts : (v : Layout) (i : ℕ) (s : Claims) (start len k : ℕ) →
    s.kept + k ≡ (after_offers v s (range_with_len start len)).kept →
    kept_in_offers v i s (range_with_len start len) ≡ map (offer_of i) (range_with_len start k)
offers_firsts v i s start zero k e = let none : k ≡ 0 = omega arith in rw none refl
offers_firsts v i s start (suc len) k e = elim (cases_Bool (nat_lt s.dup_offers 11)) [
  | inl few ↦
      let t = after_offer v s start in
      let rest = range_with_len (start + 1) len in
      let more = offers_keep v t rest in
      let one : (after_offer v s start).kept ≡ s.kept + 1 = rw few (grind arith) in
      let some : k ≡ suc (k - 1) = omega arith in
      rw some (ap (λ b. (if b then offer_of i start ∷ [] else []) ++ kept_in_offers v i t rest) few
      ∙ ap (λ os. offer_of i start ∷ os) (offers_firsts v i t (start + 1) len (k - 1) (omega arith)))
  | inr full ↦
      let shut = full_offers v i s (range_with_len start (suc len)) full in
      let none : k ≡ 0 = omega (arith, ap (λ t. t.kept) shut.1) in
      rw none shut.0
]

-- ---- an inode, replayed
offers_of_run : (v : Layout) (i : ℕ) (s : Claims) (cut start len : ℕ) (block : Option ℕ) → is_open s ≡ true →
    is_replay_open cut (replay_of s) ≡ true →
    replay_after_step v cut (replay_of s) (Run start len block) ≡ replay_of (after_step v s (Run start len block)) →
    kept_in_run v i s start len ≡ map (offer_of i) (range_with_len start (run_taken v cut (replay_of s) start len))
offers_of_run v i s cut start len block going seen next = grind (arith, offers_firsts)

-- the kept offers of a step and of its Run are those of the Run of its replay, which has its indirect block
pub record StepAgain (v : Layout) (i cut : ℕ) (s : Claims) (step : Step) : Type 0 where
  pub offers : kept_in_step v i s step ≡ offers_of_runs i (step_run v cut (replay_of s) step)
  pub looks : run_offers_of_step v i s step ≡ map (run_offers i) (step_run v cut (replay_of s) step)
  pub indirect : seen_indirect s step ≡ indirect_among (step_run v cut (replay_of s) step)

pub step_again : (v : Layout) (i cut : ℕ) (s : Claims) (step : Step) → is_replay_open cut (replay_of s) ≡ is_open s →
    replay_after_step v cut (replay_of s) step ≡ replay_of (after_step v s step) → StepAgain v i cut s step
step_again v i cut s (Run start len None) same next =
    let kept = λ (q : is_open s ≡ true). offers_of_run v i s cut start len None q (same ∙ q) next in
    grind (arith, append-nil)
step_again v i cut s (Run start len (Some block)) same next =
    let kept = λ (q : is_open s ≡ true). offers_of_run v i s cut start len (Some block) q (same ∙ q) next in
    grind (arith, append-nil)
step_again v i cut s other same next = record { offers = refl; looks = refl; indirect = refl }

-- what some steps are, replayed
pub record StepsAgain (v : Layout) (i : ℕ) (s : Claims) (steps : List Step) (runs : List SeenRun) : Type 0 where
  pub offers : kept_in_steps v i s steps ≡ offers_of_runs i runs
  pub looks : run_offers_of_steps v i s steps ≡ map (run_offers i) runs
  pub indirect : indirect_in_steps v s steps ≡ indirect_among runs

indirect_append : (xs ys : List SeenRun) → indirect_among (xs ++ ys) ≡ indirect_among xs + indirect_among ys
indirect_append [] ys = omega arith
indirect_append (x ∷ xs) ys = omega (arith, indirect_append xs ys)

steps_again : (v : Layout) (i : ℕ) (s : Claims) (steps : List Step) → s.dup_offers ≤ s.kept →
    StepsAgain v i s steps (seen_runs v (cut_of (after_steps v s steps)) (replay_of s) steps)
unfolding seen_runs
steps_again v i s [] few = record { offers = refl; looks = refl; indirect = refl }
steps_again v i s (step ∷ steps) few =
    let cut = cut_of (after_steps v s (step ∷ steps)) in
    let after = step_replays v s step steps few in
    let one = step_again v i cut s step (seen_replays v s (step ∷ steps) few) after in
    let more = steps_again v i (after_step v s step) steps (step_few v s step few) in
    grind (arith, flat_map-append, map-append, indirect_append)

-- an inode, from its begin on
pub inode_again : (v : Layout) (i : ℕ) (s : Claims) (steps : List Step) → StepsAgain v i (at_next_inode s) steps
    (seen_runs v (cut_of (after_steps v (at_next_inode s) steps)) fresh_replay steps)
inode_again v i s steps = steps_again v i (at_next_inode s) steps (omega arith)

-- ---- how many Runs the rescan looks at
-- nothing is left to report
pub looked_none : (dup : List Bool) (runs : List (List Offer)) → set_count dup ≡ 0 → runs_until_reported dup runs ≡ 0
unfolding runs_until_reported
looked_none dup [] e = refl
looked_none dup (kept ∷ runs) e = rw (eq-eqb _ _ e) refl

-- what is left to report after some Runs
abbrev pub after_runs : List Bool → List (List Offer) → List Bool
after_runs dup [] = dup
after_runs dup (kept ∷ runs) = after_runs (unreported_after dup kept) runs

none_left : (dup : List Bool) (runs : List (List Offer)) → set_count dup ≡ 0 → after_runs dup runs ≡ dup
none_left dup [] e = refl
none_left dup (kept ∷ runs) e =
    let same : unreported_after dup kept ≡ dup = none_after dup kept e in
    none_left (unreported_after dup kept) runs (ap set_count same ∙ e) ∙ same

pub looked_both : (dup : List Bool) (xs ys : List (List Offer)) → runs_until_reported dup (xs ++ ys)
    ≡ runs_until_reported dup xs + runs_until_reported (after_runs dup xs) ys
unfolding runs_until_reported
looked_both dup [] ys = omega arith
looked_both dup (kept ∷ xs) ys = elim (cases_eq (set_count dup) 0) [
  | inl none ↦
      let rest = ap (λ d. runs_until_reported d ys) (none_left dup (kept ∷ xs) none) ∙ looked_none dup ys none in
      omega (arith, looked_none dup ((kept ∷ xs) ++ ys) none, looked_none dup (kept ∷ xs) none)
  | inr some ↦ rw (ne_eqb _ _ some) (omega (arith, looked_both (unreported_after dup kept) xs ys))
]

-- the Runs leave to report what their offers leave
pub runs_leave : (i : ℕ) (dup : List Bool) (runs : List SeenRun) →
    after_runs dup (map (run_offers i) runs) ≡ unreported_after dup (offers_of_runs i runs)
runs_leave i dup [] = refl
runs_leave i dup (run ∷ runs) = runs_leave i (unreported_after dup (run_offers i run)) runs
    ∙ sym (after_append dup (run_offers i run) (offers_of_runs i runs))

-- ---- the rescan looks at no Run that phase 1 didn't see
-- each Run that is seen is counted once
step_seen : (v : Layout) (i : ℕ) (s : Claims) (step : Step) → s.runs + length (run_offers_of_step v i s step)
    ≡ (after_step v s step).runs
step_seen v i s Gap = omega arith
step_seen v i s Tail = grind arith
step_seen v i s (Run start len block) = grind (arith, offers_runs)

steps_seen : (v : Layout) (i : ℕ) (s : Claims) (steps : List Step) → s.runs + length (run_offers_of_steps v i s steps)
    ≡ (after_steps v s steps).runs
steps_seen v i s [] = omega arith
steps_seen v i s (step ∷ steps) =
    let one = step_seen v i s step in
    let more = steps_seen v i (after_step v s step) steps in
    omega (arith, one, more, length-append (run_offers_of_step v i s step) (run_offers_of_steps v i (after_step v s step) steps))

owners_seen : (v : Layout) (s : Claims) (os : List Owner) → s.runs + length (run_offers_of_owners v s os)
    ≡ (after_owners v s os).runs
unfolding run_offers_of_owners
owners_seen v s [] = omega arith
owners_seen v s (o ∷ os) =
    let one = steps_seen v o.number (at_next_inode s) o.steps in
    let more = owners_seen v (after_owner v s o) os in
    let both = length-append (run_offers_of_steps v o.number (at_next_inode s) o.steps) (run_offers_of_owners v (after_owner v s o) os) in
    omega arith

looked_most : (dup : List Bool) (runs : List (List Offer)) → runs_until_reported dup runs ≤ length runs
unfolding runs_until_reported
looked_most dup [] = omega arith
looked_most dup (kept ∷ runs) = let more = looked_most (unreported_after dup kept) runs in grind arith

pub look_most : (v : Layout) (bytes : List ℕ) → rescan_runs v bytes ≤ run_count v bytes
unfolding rescan_runs run_count all_claims
look_most v bytes = grind (arith, looked_most, owners_seen)
