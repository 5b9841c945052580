-- The lines of an inode that is walked over again, Run by Run.
use Rattle.std.proofs.Common.{◌≡◌, ℕ, zero, suc, ◌+◌, ◌≤◌, true, ◌==◌, List, [], ◌∷◌, ◌++◌, map, arith, refl, ap, ◌∙◌}
use Rattle.std.proofs.{Common.{inl, inr, Option, None, Some, append-nil}, lemmas.Bool.{cases_Bool, Decides.nat_tests}}
use Rattle.std.specs.List.{concat, list_any, range_with_len}
use Rattle.ffs_volume.proofs.ReplayIsKeeping.{replay_of, seen_replays, step_replays, step_few}
use Rattle.ffs_volume.specs.Blocks.Claims.{Claims, at_next_inode, is_open, after_step, after_steps}
use Rattle.ffs_volume.specs.{Blocks.KeptOffers.{kept_in_step, offer_of}, Encodings.Replay.{fresh_replay, cut_of}}
use Rattle.ffs_volume.specs.{declared.{Layout.Layout, Step.{Step, TheVariants.Run}}, Find.Owner.indirect_in}
use Rattle.ffs_volume.specs.Find.Owner.{keeper_lines_of_step, keeper_lines_of_steps}
use Rattle.ffs_walk.specs.{Keepings.run_taken, SeenRuns.{indirect_by, seen_runs, step_run, indirect_in_run}}
use Rattle.ffs_walk.specs.declared.seen_runs.SeenRun.{SeenRun}
use Rattle.ffs_claims.{specs.Rewalking.offers_of_runs, proofs.RescanCounts.step_again}
use Rattle.ffs_finding.specs.{Keepers.{is_in_run, lines_of_runs, lines_of_run, run_text}, declared.owner.Sought.Sought}

-- ---- the lines
-- an offer of some consecutive fragments is of f
any_in_range : (f x start taken : ℕ) → list_any (λ o. o.fragment == f) (map (offer_of x) (range_with_len start taken))
    ≡ is_in_run f start taken
any_in_range f x start zero = grind (arith, nat_tests)
any_in_range f x start (suc taken) = let more = any_in_range f x (start + 1) taken in grind (arith, nat_tests)

any_in_run : (f x : ℕ) (run : SeenRun) → list_any (λ o. o.fragment == f) (offers_of_runs x (run ∷ []))
    ≡ is_in_run f run.start run.kept
any_in_run f x run = rw (append-nil (map (offer_of x) (range_with_len run.start run.kept)))
    (any_in_range f x run.start run.kept)

-- the Run of a step, and what it counts
same_count : (start len : ℕ) (block : Option ℕ) → indirect_in (Run start len block) ≡ indirect_by block
same_count start len None = refl
same_count start len (Some block) = refl

-- as long as the inode isn't cut, as many indirect blocks were seen as came
lines_replay : (v : Layout) (f x earlier seen : ℕ) (s : Claims) (steps : List Step) → s.dup_offers ≤ s.kept →
    (is_open s ≡ true → earlier ≡ seen) → keeper_lines_of_steps v f x earlier s steps
    ≡ lines_of_runs f x seen (seen_runs v (cut_of (after_steps v s steps)) (replay_of s) steps)
unfolding lines_of_runs seen_runs
lines_replay v f x earlier seen s [] few same = refl
lines_replay v f x earlier seen s (Run start len block ∷ steps) few same =
    let step = Run start len block in
    let cut = cut_of (after_steps v s (step ∷ steps)) in
    let after = step_replays v s step steps few in
    let going_on = seen_replays v s (step ∷ steps) few in
    let one = (step_again v x cut s step going_on after).offers in
    let count = same_count start len block in
    elim (cases_Bool (is_open s)) [
      | inl going ↦
          let more = lines_replay v f x (earlier + indirect_in step) (seen + indirect_by block) (after_step v s step) steps
          (step_few v s step few) (λ q. ap (λ n. n + indirect_in step) (same going) ∙ ap (λ n. seen + n) count) in
          let run : SeenRun = record { start = start; kept = run_taken v cut (replay_of s) start len; block = block } in
          let seen_one : step_run v cut (replay_of s) step ≡ run ∷ [] = rw (going_on ∙ going) refl in
          let keeps : list_any (λ o. o.fragment == f) (kept_in_step v x s step) ≡ is_in_run f start run.kept =
          ap (list_any (λ o. o.fragment == f)) (one ∙ ap (offers_of_runs x) seen_one) ∙ any_in_run f x run in
          let line : keeper_lines_of_step v f x earlier s step ≡ lines_of_run f x seen run = rw (keeps, same going) refl in
          rw (seen_one, after, line, more) refl
      | inr shut ↦
          let more = lines_replay v f x (earlier + indirect_in step) seen (after_step v s step) steps
          (step_few v s step few) (λ q. grind arith) in
          grind arith
    ]
lines_replay v f x earlier seen s (other ∷ steps) few same =
    let after = step_replays v s other steps few in
    let more = lines_replay v f x (earlier + 0) seen (after_step v s other) steps (step_few v s other few)
    (λ q. grind arith) in
    grind arith

-- those of an inode
pub inode_replay : (v : Layout) (f x : ℕ) (s : Claims) (steps : List Step) →
    keeper_lines_of_steps v f x 0 (at_next_inode s) steps
    ≡ lines_of_runs f x 0 (seen_runs v (cut_of (after_steps v (at_next_inode s) steps)) fresh_replay steps)
inode_replay v f x s steps = lines_replay v f x 0 0 (at_next_inode s) steps (omega arith) (λ q. refl)

-- ---- how a walk continues
-- the text of a Run
pub text_is : (s : Sought) (earlier : ℕ) (run : SeenRun) →
    run_text s earlier run ≡ concat (lines_of_run s.fragment s.number earlier run)
text_is s earlier run = grind (arith, append-nil)

pub lines_next : (f x earlier earlier' : ℕ) (run : SeenRun) (R R' : List SeenRun) → R ≡ run ∷ R' →
    earlier' ≡ earlier + indirect_in_run run →
    lines_of_runs f x earlier R ≡ lines_of_run f x earlier run ++ lines_of_runs f x earlier' R'
unfolding lines_of_runs
lines_next f x earlier earlier' run R R' e more = rw (e, more) refl

pub lines_none : (f x earlier : ℕ) (R : List SeenRun) → R ≡ [] → lines_of_runs f x earlier R ≡ []
unfolding lines_of_runs
lines_none f x earlier R e = rw e refl
