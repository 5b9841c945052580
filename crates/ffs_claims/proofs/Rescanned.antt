-- How phase 1b goes from inode to inode.
use Rattle.std.proofs.Common.{◌≡◌, ◌≢◌, ℕ, zero, suc, ◌+◌, ◌-◌, ◌<◌, ◌≤◌, Bool, true, false, not, ◌&&◌, ◌==◌, List, []}
use Rattle.std.proofs.Common.{◌∷◌, ◌++◌, length, map, slice_index, slice_set, arith, refl, ap, ◌∙◌, sym, ne_eqb, Result}
use Rattle.std.proofs.lemmas.{Bool.{and_from, and_parts, Decides.nat_tests}, List.Folds.list_all-append}
use Rattle.std.specs.List.{range_with_len, list_any, list_all}
use Rattle.ffs_volume.proofs.{CutLaws.cut_is, OwnerLaws.before_next, Potentials.cond_holds, ReplayLaws.replay_is_runs}
use Rattle.ffs_volume.specs.Blocks.BlockCheck.{blames, first_offer_lines, phase1b_lines, unreported_after, set_count}
use Rattle.ffs_volume.specs.Blocks.Claims.{Claims, no_claims, at_next_inode, after_offer, after_step, after_steps}
use Rattle.ffs_volume.specs.Blocks.{Claims.{after_owner, all_claims, after_owners}, Inodes.{inode_of, inodes_of}}
use Rattle.ffs_volume.specs.Blocks.KeptOffers.{Offer, kept_in_offers, kept_in_step, kept_in_steps, kept_in_owners}
use Rattle.ffs_volume.specs.Blocks.{KeptSteps.claims_before, Owners.{owner_of, owners_of}, Steps.steps_of}
use Rattle.ffs_volume.specs.{Directories.Volumes.is_inode_number, Encodings.Replay.{fresh_replay, cut_of, cut_at}}
use Rattle.ffs_volume.specs.{Laws.Geometry.IsAcceptedLayout, Report.Whole.{run_count, phase1b_messages}}
use Rattle.ffs_volume.specs.{declared.{Layout.Layout, Step.{Step, TheVariants.Run}}, Encodings.Notes.{cut_in, note_at}}
use Rattle.ffs_volume.specs.Costs.RescanRuns.{run_offers_of_owners, runs_until_reported}
use Rattle.ffs_walk.{proofs.ReplayedRuns.runs_counted, specs.{SeenRuns.seen_runs, declared.seen_runs.SeenRun.SeenRun}}
use Rattle.ffs_workspace.{proofs.{Leaving.counts_unsurveyed, NoteLaws.cut_is_noted}, specs.Holds.HoldsPhase1}
use Rattle.ffs_workspace.specs.{Holds.HoldsBlockCheck, declared.workspace.Workspace.Workspace, Found.WithPhase1}
use Rattle.ffs_claims.proofs.{Duplicates.marked_total, Numbers.{before_end, is_inside}, RescanCounts.looked_both}
use Rattle.ffs_claims.proofs.{RescanCounts.{runs_leave, inode_again}, StepsContinue.range_more}
use Rattle.ffs_claims.specs.{Claiming.ReadsIndirect, Lines.owners_from, Reporting.{OffersReported, Phase1bKeeps}}
use Rattle.ffs_claims.specs.{Phases.{WithNotes, phase1b_messages_for}, Rewalking.{ReadsIndirectAgain, offers_by_owner}}
use Rattle.ffs_claims.specs.Rewalking.{offers_of_runs, run_offers}
use Rattle.ffs_image.specs.Device.{Device}
use Rattle.ffs_report.{proofs.Reporting.{reports_knowing, reports_same}, specs.PhaseOutcome.PhaseReports}
use Rattle.ffs_report.specs.{Progress.Progress, declared.fault.RunFault.RunFault}
use Rattle.ffs_maps.specs.Bits.{bits_of}

-- the Runs of the inode n, replayed by its noted cut, the offers that it keeps, and those of each of its Runs
abbrev pub again_at : Layout → List ℕ → List ℕ → ℕ → List SeenRun
again_at v bytes notes n = seen_runs v (cut_in (slice_index notes n)) fresh_replay (steps_of v (inode_of v bytes n) bytes)

abbrev pub offers_at : Layout → List ℕ → List ℕ → ℕ → List Offer
offers_at v bytes notes n = offers_of_runs n (again_at v bytes notes n)

abbrev pub runs_at : Layout → List ℕ → List ℕ → ℕ → List (List Offer)
runs_at v bytes notes n = map (run_offers n) (again_at v bytes notes n)

-- those of all inodes from n on
abbrev pub kept_from : Layout → List ℕ → ℕ → List Offer
kept_from v bytes n = kept_in_owners v (claims_before v bytes n) (owners_from v bytes n)

abbrev pub runs_from : Layout → List ℕ → ℕ → List (List Offer)
runs_from v bytes n = run_offers_of_owners v (claims_before v bytes n) (owners_from v bytes n)

-- n is an inode's number, and its cut is noted
pub record IsNoted (v : Layout) (bytes notes : List ℕ) (n : ℕ) : Type 0 where
  accepted : IsAcceptedLayout v
  low : 2 ≤ n
  high : n < inodes_of v
  cut : cut_in (slice_index notes n) ≡ cut_at v bytes n

pub is_noted : {v : Layout} {bytes : List ℕ} {u w : Workspace} {n : ℕ} → IsAcceptedLayout v → 2 ≤ n → n < inodes_of v →
    Phase1bKeeps u w → ((x : ℕ) → slice_index u.notes.items x ≡ note_at v bytes x) → IsNoted v bytes w.notes.items n
is_noted {v = v} {bytes = bytes} {n = n} g low high same h = grind (arith, cut_is_noted)

cut_noted : {v : Layout} {bytes notes : List ℕ} {n : ℕ} → IsNoted v bytes notes n →
    cut_of (after_steps v (at_next_inode (claims_before v bytes n)) (steps_of v (inode_of v bytes n) bytes))
    ≡ cut_in (slice_index notes n)
unfolding owner_of
cut_noted {v = v} {bytes = bytes} {n = n} p = sym (p.cut ∙ cut_is v bytes n p.accepted (is_inside v n p.low p.high))

-- the offers of the next inode, replayed by its cut, and those of the inodes after it
pub kept_next : (v : Layout) (bytes notes : List ℕ) (n : ℕ) → IsNoted v bytes notes n →
    kept_from v bytes n ≡ offers_at v bytes notes n ++ kept_from v bytes (n + 1)
unfolding owner_of
kept_next v bytes notes n p = grind (arith, inode_again, arith, range_more, before_next, cut_noted)

-- its Runs are looked at, and those of the inodes after it
pub looked_on : (v : Layout) (bytes notes : List ℕ) (n : ℕ) (dup dup' : List Bool) → IsNoted v bytes notes n →
    dup' ≡ unreported_after dup (offers_at v bytes notes n) → runs_until_reported dup (runs_from v bytes n)
    ≡ runs_until_reported dup (runs_at v bytes notes n) + runs_until_reported dup' (runs_from v bytes (n + 1))
unfolding owner_of run_offers_of_owners
looked_on v bytes notes n dup dup' p d =
    let high = p.high in
    let again = inode_again v n (claims_before v bytes n) (steps_of v (inode_of v bytes n) bytes) in
    let next : runs_from v bytes n ≡ runs_at v bytes notes n ++ runs_from v bytes (n + 1) =
    grind (arith, range_more, before_next, cut_noted) in
    let left = runs_leave n dup (again_at v bytes notes n) in
    rw (d, next, looked_both dup (runs_at v bytes notes n) _, left) refl

-- its indirect blocks are those that phase 1 saw
pub indirect_noted : {v : Layout} {bytes notes : List ℕ} {n : ℕ} (reads reads' : ℕ) → IsNoted v bytes notes n →
    ReadsIndirectAgain (again_at v bytes notes n) reads reads' →
    ReadsIndirect v (claims_before v bytes n) (owner_of v bytes n) reads reads'
unfolding owner_of
indirect_noted {v = v} {bytes = bytes} {n = n} reads reads' p few =
    let same = (inode_again v n (claims_before v bytes n) (steps_of v (inode_of v bytes n) bytes)).indirect in
    omega (arith, few, rw (cut_noted p) at same)

-- it is looked at, and so are those after it
abbrev pub each_from : Layout → List ℕ → ℕ → List (List Offer)
each_from v bytes n = offers_by_owner v (claims_before v bytes n) (owners_from v bytes n)

pub inodes_on : (v : Layout) (bytes notes : List ℕ) (n : ℕ) (dup dup' : List Bool) → IsNoted v bytes notes n →
    set_count dup ≢ 0 → dup' ≡ unreported_after dup (offers_at v bytes notes n) →
    runs_until_reported dup (each_from v bytes n) ≡ 1 + runs_until_reported dup' (each_from v bytes (n + 1))
unfolding owner_of offers_by_owner runs_until_reported
inodes_on v bytes notes n dup dup' p some d =
    let high = p.high in
    let again = inode_again v n (claims_before v bytes n) (steps_of v (inode_of v bytes n) bytes) in
    let next : each_from v bytes n ≡ offers_at v bytes notes n ∷ each_from v bytes (n + 1) =
    grind (arith, range_more, before_next, cut_noted) in
    rw (d, next, ne_eqb _ _ some) refl

-- where phase 1 left the workspace, each fragment with a DUP line is to be reported
pub text_noted : {T : Type 0} (v : Layout) (d : Device) (w : Workspace) (a b : Progress) (r : Result T RunFault) →
    PhaseReports (WithNotes v d w) (phase1b_messages_for (bits_of w.duplicates) v) a b r →
    PhaseReports (WithPhase1 v d w) (phase1b_messages v) a b r
unfolding phase1b_lines all_claims
text_noted {T = T} v d w a b r p = reports_same T _ _ _ _ _ r (λ bytes k. rw k.1.duplicates refl)
    (reports_knowing T _ _ _ _ _ r (λ bytes k. (k.0, k.1.notes)) p)

-- no inode is left
pub kept_end : (v : Layout) (bytes : List ℕ) (s : Claims) (n : ℕ) → inodes_of v ≤ n →
    kept_in_owners v s (owners_from v bytes n) ≡ []
kept_end v bytes s n past = let none : inodes_of v - n ≡ 0 = omega arith in rw none refl

pub looked_end : (v : Layout) (bytes : List ℕ) (dup : List Bool) (s : Claims) (n : ℕ) → inodes_of v ≤ n →
    runs_until_reported dup (run_offers_of_owners v s (owners_from v bytes n)) ≡ 0
unfolding run_offers_of_owners runs_until_reported
looked_end v bytes dup s n past = let none : inodes_of v - n ≡ 0 = omega arith in rw none refl

-- the count of Runs of an inode more
pub runs_on : (v : Layout) (bytes notes : List ℕ) (n : ℕ) → IsNoted v bytes notes n →
    (claims_before v bytes (n + 1)).runs ≡ (claims_before v bytes n).runs + length (again_at v bytes notes n)
unfolding owner_of
runs_on v bytes notes n p = grind (arith, before_next, replay_is_runs, runs_counted)

-- the count of Runs rises
runs_rise : (v : Layout) (bytes : List ℕ) (n k : ℕ) → 2 ≤ n →
    (claims_before v bytes n).runs ≤ (claims_before v bytes (n + k)).runs
unfolding owner_of
runs_rise v bytes n zero low = let same : n + 0 ≡ n = omega arith in rw same (omega arith)
runs_rise v bytes n (suc k) low =
    let more = runs_rise v bytes n k low in
    let again = replay_is_runs v (claims_before v bytes (n + k)) (steps_of v (inode_of v bytes (n + k)) bytes) in
    let next : n + suc k ≡ n + k + 1 = omega arith in
    rw (next, before_next v bytes (n + k) (omega arith)) (omega arith)

pub runs_most : (v : Layout) (bytes : List ℕ) (n : ℕ) → 2 ≤ n → (2 < n → n ≤ inodes_of v) →
    (claims_before v bytes n).runs ≤ run_count v bytes
unfolding run_count all_claims
runs_most v bytes n low high =
    let k = inodes_of v - n in
    let end = before_end v bytes (n + k) (omega arith) (λ more. grind arith) (omega arith) in
    omega (arith, runs_rise v bytes n k low, ap (λ t. t.runs) end)

-- the offers are of the inodes that they are reported for
abbrev no_offer : ℕ → List Offer → Bool
no_offer x os = list_all (λ o. not (o.inode == x)) os

both_none : (x : ℕ) (xs ys : List Offer) → no_offer x xs ≡ true → no_offer x ys ≡ true → no_offer x (xs ++ ys) ≡ true
both_none x xs ys p q = list_all-append (λ o. not (o.inode == x)) xs ys ∙ and_from _ _ p q

offers_none_of : (v : Layout) (x i : ℕ) (s : Claims) (fs : List ℕ) → (i == x) ≡ false →
    no_offer x (kept_in_offers v i s fs) ≡ true
offers_none_of v x i s [] e = refl
offers_none_of v x i s (f ∷ fs) e =
    let more = offers_none_of v x i (after_offer v s f) fs e in grind (arith, cond_holds)

step_none_of : (v : Layout) (x i : ℕ) (s : Claims) (step : Step) → (i == x) ≡ false →
    no_offer x (kept_in_step v i s step) ≡ true
step_none_of v x i s (Run start len block) e = grind (arith, offers_none_of)
step_none_of v x i s other e = refl

steps_none_of : (v : Layout) (x i : ℕ) (s : Claims) (steps : List Step) → (i == x) ≡ false →
    no_offer x (kept_in_steps v i s steps) ≡ true
steps_none_of v x i s [] e = refl
steps_none_of v x i s (step ∷ steps) e =
    both_none x (kept_in_step v i s step) _ (step_none_of v x i s step e)
    (steps_none_of v x i (after_step v s step) steps e)

owners_none_of : (v : Layout) (bytes : List ℕ) (x : ℕ) (s : Claims) (n k : ℕ) → (n ≤ x → n + k ≤ x) →
    no_offer x (kept_in_owners v s (map (owner_of v bytes) (range_with_len n k))) ≡ true
unfolding owner_of
owners_none_of v bytes x s n zero h = refl
owners_none_of v bytes x s n (suc k) h =
    let apart : (n == x) ≡ false = ne_eqb n x (λ e. omega (arith, h (omega arith))) in
    both_none x (kept_in_steps v n (at_next_inode s) (steps_of v (inode_of v bytes n) bytes)) _
    (steps_none_of v x n (at_next_inode s) (steps_of v (inode_of v bytes n) bytes) apart)
    (owners_none_of v bytes x (after_owner v s (owner_of v bytes n)) (n + 1) k (λ low. omega (arith, h (omega arith))))

blames_none_of : (x : ℕ) (dup : List Bool) (os : List Offer) → no_offer x os ≡ true →
    list_any (blames x) (first_offer_lines dup os) ≡ false
blames_none_of x dup [] e = refl
blames_none_of x dup (o ∷ os) e =
    let both = and_parts (not (o.inode == x)) (no_offer x os) e in
    let left = blames_none_of x (slice_set dup o.fragment false) os both.1 in
    let silent = blames_none_of x dup os both.1 in
    grind arith

-- no line of phase 1b names a number that is no inode's
outside : (v : Layout) (bytes : List ℕ) (x : ℕ) →
    (is_inode_number v x && list_any (blames x) (phase1b_lines v (owners_of v bytes)))
    ≡ list_any (blames x) (phase1b_lines v (owners_of v bytes))
unfolding phase1b_lines owners_of
outside v bytes x = known (is_inode_number v x) _ (λ q. blames_none_of x
    (after_owners v (no_claims v) (owners_from v bytes 2)).duplicates
    (kept_in_owners v (no_claims v) (owners_from v bytes 2))
    (owners_none_of v bytes x (no_claims v) 2 (inodes_of v - 2) (past v x q)))
  where
    known : (a b : Bool) → (a ≡ false → b ≡ false) → (a && b) ≡ b
    known a b h = grind arith

    past : (v : Layout) (x : ℕ) → is_inode_number v x ≡ false → 2 ≤ x → 2 + (inodes_of v - 2) ≤ x
    past v x q high = grind (arith, nat_tests)

-- all offers are gone over: the workspace holds the claims
pub claims_hold : (v : Layout) (bytes : List ℕ) (old new : Workspace) → HoldsPhase1 v bytes old → Phase1bKeeps old new →
    OffersReported (kept_in_owners v (no_claims v) (owners_of v bytes)) old new → HoldsBlockCheck v bytes new
unfolding all_claims phase1b_lines
claims_hold v bytes old new h same t = grind (arith, outside, marked_total, counts_unsurveyed)
