-- How many fragments are claimed, by a map that has the reserved ones.
use Rattle.std.proofs.Common.{◌≡◌, ℕ, zero, suc, ◌+◌, ◌<◌, Bool, true, cond, not, ◌&&◌, List, count_by, arith, refl, []}
use Rattle.std.{proofs.{Common.◌∷◌, lemmas.List.Sums.sum_by-cons}, specs.List.range_with_len}
use Rattle.std.proofs.lemmas.List.FromFn.{get_or-map-range_with_len}
use Rattle.ffs_volume.specs.{declared.{Layout.Layout, Step.Step}, Report.Whole.claimed_count, Blocks.Claims.is_set}
use Rattle.ffs_volume.specs.Blocks.Claims.{Claims, no_claims, reserved_map, after_offer, after_offers, after_step}
use Rattle.ffs_volume.specs.{Blocks.Claims.{after_steps, after_owner, after_owners, all_claims}, Disk.Areas.is_reserved}
use Rattle.ffs_volume.{specs.Blocks.Owners.Owner, proofs.{Flags.set_kept, Potentials.cond_holds}}
use Rattle.ffs_counts.specs.Reserved.{HasReserved, claimed_in}

-- ---- the claimed ones
-- where each reserved fragment is set, the set ones are those beside them and the reserved ones
pub set_apart : (v : Layout) (used : List Bool) (a n : ℕ) →
    ((k : ℕ) → k < n → is_reserved v (a + k) ≡ true → is_set used (a + k) ≡ true) →
    count_by (λ f. is_set used f) (range_with_len a n)
    ≡ count_by (λ f. is_set used f && not (is_reserved v f)) (range_with_len a n)
    + count_by (is_reserved v) (range_with_len a n)
set_apart v used a zero all = refl
set_apart v used a (suc n) all =
    let at : a ≡ a + 0 = omega arith in
    let rest = set_apart v used (a + 1) n
    (λ k h. let l : a + 1 + k ≡ a + (k + 1) = omega arith in rw l (all (k + 1) (omega (arith, h)))) in
    let here : is_reserved v a ≡ true → is_set used a ≡ true = rw at (all 0 (omega arith)) in
    let first : cond (is_set used a) 1 0 ≡ cond (is_set used a && not (is_reserved v a)) 1 0 + cond (is_reserved v a) 1 0 =
    grind arith in
    omega (
      arith,
      rest,
      first,
      sum_by-cons (λ f. cond (is_set used f) 1 0) a (range_with_len (a + 1) n),
      sum_by-cons (λ f. cond (is_set used f && not (is_reserved v f)) 1 0) a (range_with_len (a + 1) n),
      sum_by-cons (λ f. cond (is_reserved v f) 1 0) a (range_with_len (a + 1) n),
    )

-- ---- a fragment that is used stays used, so each reserved one is used after all inodes
-- each fragment that is used is used afterwards
abbrev Keeps : Claims → Claims → Type 0
Keeps s t = (f : ℕ) → is_set s.used f ≡ true → is_set t.used f ≡ true

offer_keeps : (v : Layout) (s : Claims) (g : ℕ) → Keeps s (after_offer v s g)
offer_keeps v s g = grind (arith, cond_holds, set_kept)

offers_keep : (v : Layout) (s : Claims) (gs : List ℕ) → Keeps s (after_offers v s gs)
offers_keep v s [] = λ f h. h
offers_keep v s (g ∷ gs) = λ f h. offers_keep v (after_offer v s g) gs f (offer_keeps v s g f h)

step_keeps : (v : Layout) (s : Claims) (step : Step) → Keeps s (after_step v s step)
step_keeps v s step = grind (arith, cond_holds, offers_keep)

steps_keep : (v : Layout) (s : Claims) (steps : List Step) → Keeps s (after_steps v s steps)
steps_keep v s [] = λ f h. h
steps_keep v s (step ∷ steps) = λ f h. steps_keep v (after_step v s step) steps f (step_keeps v s step f h)

owners_keep : (v : Layout) (s : Claims) (os : List Owner) → Keeps s (after_owners v s os)
owners_keep v s [] = λ f h. h
owners_keep v s (o ∷ os) = λ f h. owners_keep v (after_owner v s o) os f (steps_keep v _ o.steps f h)

-- how many fragments are claimed, by the map that a workspace holds
pub used_are : (v : Layout) (image : List ℕ) (used : List Bool) (n : ℕ) →
    (HasReserved v used → n ≡ claimed_in v used) →
    used ≡ (all_claims v image).used → n ≡ claimed_count v image
unfolding claimed_count all_claims no_claims reserved_map
used_are v image used n e same = grind (arith, owners_keep, get_or-map-range_with_len)
