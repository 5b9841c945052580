-- Laws of `specs/Encodings/Replay`.
use Rattle.std.proofs.Common.{◌≡◌, ℕ, ◌+◌, ◌-◌, ◌≤◌, false, arith, refl, ap, List, [], ◌∷◌, ◌++◌, nat_lt}
use Rattle.std.proofs.{Common.{map}, lemmas.Bool.{Decides.nat_tests, and_right}}
use Rattle.std.{proofs.lemmas.List.FromFn.length-range_with_len, specs.List.range_with_len}
use Rattle.ffs_volume.{proofs.{Potentials.offers_keep, PrefixLaws.shut_steps}, specs.Blocks.Claims.Claims}
use Rattle.ffs_volume.specs.Blocks.Claims.{at_next_inode, is_open, after_offers, after_run, after_step, after_steps}
use Rattle.ffs_volume.specs.Blocks.{KeptOffers.{Offer, offer_of}, KeptSteps.{is_kept_step, kept_steps}}
use Rattle.ffs_volume.specs.{declared.Layout.Layout, Encodings.Replay.{Replay, fresh_replay, cut_of, is_replay_open}}
use Rattle.ffs_volume.specs.Encodings.Replay.{taken_of, replay_after_run, replay_after_step, is_replayed}
use Rattle.ffs_volume.specs.{Encodings.Replay.replayed_steps, declared.Step.{Step, TheVariants.{Run, Tail, Gap}}}

-- the replay of a fold
abbrev pub replay_of : Claims → Replay
replay_of s = record { bad = s.bad; kept = s.kept }

-- the offers of a step that are kept: the first of its fragments
abbrev pub replayed_step_offers : Layout → ℕ → ℕ → Replay → Step → List Offer
replayed_step_offers v inode cut r (Run start len block) =
    map (offer_of inode) (range_with_len start ((replay_after_step v cut r (Run start len block)).kept - r.kept))
replayed_step_offers v inode cut r Tail = []
replayed_step_offers v inode cut r Gap = []

abbrev pub replayed_offers : Layout → ℕ → ℕ → Replay → List Step → List Offer
replayed_offers v inode cut r [] = []
replayed_offers v inode cut r (step ∷ steps) =
    replayed_step_offers v inode cut r step ++ replayed_offers v inode cut (replay_after_step v cut r step) steps

-- how the counts of an inode move over steps
record Grows (s s' : Claims) : Type 0 where
  kept_low : s.kept ≤ s'.kept
  dup_offers_low : s.dup_offers ≤ s'.dup_offers
  rise : s'.dup_offers + s.kept ≤ s'.kept + s.dup_offers

step_grows : (v : Layout) (s : Claims) (step : Step) → Grows s (after_step v s step)
step_grows v s Gap = omega arith
step_grows v s Tail = grind arith
step_grows v s (Run start len block) =
    let keep = offers_keep v (record s { runs = s.runs + 1 }) (range_with_len start len) in
    let keep_bad = offers_keep v (record s { runs = s.runs + 1; bad = s.bad + 1 }) (range_with_len start len) in
    grind arith

steps_grow : (v : Layout) (s : Claims) (steps : List Step) → Grows s (after_steps v s steps)
steps_grow v s [] = omega arith
steps_grow v s (step ∷ steps) = let one = step_grows v s step in omega (arith, steps_grow v (after_step v s step) steps)

-- where eleven offers were dup, no more are kept
full_ends : (v : Layout) (s : Claims) (steps : List Step) → nat_lt s.dup_offers 11 ≡ false →
    (after_steps v s steps).kept ≡ s.kept
full_ends v s steps e =
    ap (λ x. x.kept) (shut_steps v 0 s steps (and_right (nat_lt s.bad 11) (nat_lt s.dup_offers 11) e)).1

-- how many offers of a Run are kept, by the states before it, after it and at the end
offers_replay : (v : Layout) (s t : Claims) (start len : ℕ) (steps : List Step) → t.kept ≡ s.kept →
    t.dup_offers ≡ s.dup_offers → s.dup_offers ≤ s.kept
    → s.kept + taken_of (cut_of (after_steps v (after_offers v t (range_with_len start len)) steps)) s.kept len
    ≡ (after_offers v t (range_with_len start len)).kept
offers_replay v s t start len steps k d few =
    let keep = offers_keep v t (range_with_len start len) in
    grind (arith, length-range_with_len, steps_grow, full_ends, nat_tests)

pub seen_replays : (v : Layout) (s : Claims) (steps : List Step) → s.dup_offers ≤ s.kept →
    is_replay_open (cut_of (after_steps v s steps)) (replay_of s) ≡ is_open s
seen_replays v s steps few = grind (arith, steps_grow, full_ends)

-- a Run that is seen does in the replay what it did
run_replays : (v : Layout) (s : Claims) (start len : ℕ) (steps : List Step) → s.dup_offers ≤ s.kept
    → replay_after_run v (cut_of (after_steps v (after_run v s start len) steps)) (replay_of s) start len
    ≡ replay_of (after_run v s start len)
run_replays v s start len steps few =
    let seen : Claims = record s { runs = s.runs + 1 } in
    let bad : Claims = record s { runs = s.runs + 1; bad = s.bad + 1 } in
    let kept = offers_replay v s seen start len steps refl refl few in
    let kept_bad = offers_replay v s bad start len steps refl refl few in
    let a = (offers_keep v seen (range_with_len start len)).bad_is in
    let b = (offers_keep v bad (range_with_len start len)).bad_is in
    grind arith

-- and so does each step
pub step_replays : (v : Layout) (s : Claims) (step : Step) (steps : List Step) → s.dup_offers ≤ s.kept
    → replay_after_step v (cut_of (after_steps v s (step ∷ steps))) (replay_of s) step ≡ replay_of (after_step v s step)
step_replays v s Gap steps few = refl
step_replays v s Tail steps few = grind arith
step_replays v s (Run start len block) steps few =
    rw (seen_replays v s (Run start len block ∷ steps) few) (grind (arith, run_replays))

-- a step keeps its counts in order
pub step_few : (v : Layout) (s : Claims) (step : Step) → s.dup_offers ≤ s.kept →
    (after_step v s step).dup_offers ≤ (after_step v s step).kept
step_few v s step few = let g = step_grows v s step in omega arith

kept_replays : (v : Layout) (s : Claims) (step : Step) (steps : List Step) → s.dup_offers ≤ s.kept
    → is_replayed v (cut_of (after_steps v s (step ∷ steps))) (replay_of s) step ≡ is_kept_step v s step
kept_replays v s Gap steps few = seen_replays v s (Gap ∷ steps) few
kept_replays v s Tail steps few = seen_replays v s (Tail ∷ steps) few
kept_replays v s (Run start len block) steps few =
    rw (step_replays v s (Run start len block) steps few, seen_replays v s (Run start len block ∷ steps) few)

steps_replay : (v : Layout) (s : Claims) (steps : List Step) → s.dup_offers ≤ s.kept
    → replayed_steps v (cut_of (after_steps v s steps)) (replay_of s) steps ≡ kept_steps v s steps
steps_replay v s [] few = refl
steps_replay v s (step ∷ steps) few =
    let more = steps_replay v (after_step v s step) steps (step_few v s step few) in
    grind (arith, kept_replays, step_replays)

-- the kept steps of an inode are those of the replay, with the cut that its end reports
pub replay_is_keeping : (v : Layout) (s : Claims) (steps : List Step)
    → replayed_steps v (cut_of (after_steps v (at_next_inode s) steps)) fresh_replay steps
    ≡ kept_steps v (at_next_inode s) steps
replay_is_keeping v s steps = steps_replay v (at_next_inode s) steps (omega arith)
