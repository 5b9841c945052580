-- The fold over steps keeps what the rule keeps.
use Rattle.std.proofs.Common.{zero, suc, inl, inr, ◌≡◌, ◌⊎◌, ℕ, ◌+◌, ◌-◌, ◌*◌, ◌<◌, ◌≤◌, Bool, true, false, cond, arith}
use Rattle.std.proofs.Common.{refl, sym, ap, subst, ◌∙◌, List, [], ◌∷◌, ◌++◌, length, append_assoc, count_by, nat_lt}
use Rattle.std.proofs.{Common.{nat_le, min, ◌&&◌, ◌||◌, ◌==◌, slice_set, if◌then◌else◌, map}, lemmas.Bool.eq-eqb}
use Rattle.std.proofs.lemmas.{Bool.{ltb-true, ltb-false, le-leb, Decides.nat_tests}, List.get_or-set_same}
use Rattle.std.{proofs.lemmas.List.{get_or-set_other, length-set, Sums.sum_by-cons}, specs.List.list_all}
use Rattle.std.specs.List.{range_with_len}
use Rattle.ffs_volume.specs.declared.{Step.{TheVariants.{Run, Tail, Gap}, Step}, Layout.Layout}
use Rattle.ffs_volume.specs.{Disk.Areas.{is_fragment_in_range, is_run_in_range, is_reserved}, Blocks.Owners.Owner}
use Rattle.ffs_volume.specs.Blocks.{Owners.{owner_of, owners_of}, Claims.{Claims, is_set, is_open, at_next_inode}}
use Rattle.ffs_volume.specs.Blocks.Claims.{no_claims, after_offer, after_offers, after_step, after_steps, after_owner}
use Rattle.ffs_volume.specs.Blocks.{Claims.after_owners, KeptOffers.{kept_in_offers, kept_in_step, kept_in_steps}}
use Rattle.ffs_volume.specs.Blocks.{KeptOffers.kept_in_owners, KeptByRule.{uncounted, CountedOffer, OfferVerdict}}
use Rattle.ffs_volume.specs.Blocks.KeptByRule.{counted_offer, bad_runs_after, step_offers, offers_of_steps, all_offers}
use Rattle.ffs_volume.specs.Blocks.KeptByRule.{is_claimed_before, dups_of, offer_verdict, verdicts, kept_by_rule}
use Rattle.ffs_volume.proofs.Potentials.{in_range_below}
use Rattle.ffs_certificate.{specs.Certificate.KeepsByRule, proofs.BlocksSilent.{bit, reserved_length, reserved_bit}}

-- how many kept offers of an inode there are
abbrev pub kept_of : List OfferVerdict → ℕ → ℕ
kept_of earlier i = count_by (λ j. j.kept && j.inode == i) earlier

dups_cons : (j : OfferVerdict) (e : List OfferVerdict) (i : ℕ) →
    dups_of (j ∷ e) i ≡ bit (j.dup && j.inode == i) + dups_of e i
dups_cons j e i = sum_by-cons (λ k. cond (k.dup && k.inode == i) 1 0) j e

kept_cons : (j : OfferVerdict) (e : List OfferVerdict) (i : ℕ) →
    kept_of (j ∷ e) i ≡ bit (j.kept && j.inode == i) + kept_of e i
kept_cons j e i = sum_by-cons (λ k. cond (k.kept && k.inode == i) 1 0) j e

-- what holds of the map and of the count of kept offers after some verdicts, also after the cut
record Held (v : Layout) (i : ℕ) (used : List Bool) (kept : ℕ) (e : List OfferVerdict) : Type 0 where
  used_is : (f : ℕ) → is_fragment_in_range v f ≡ true → is_set used f ≡ (is_reserved v f || is_claimed_before e f)
  long : length used ≡ v.size
  kept_is : kept ≡ kept_of e i

-- the fold's state in the midst of a Run, and what was judged
record OfferTie (v : Layout) (i : ℕ) (s : Claims) (e : List OfferVerdict) : Type 0 where
  held : Held v i s.used s.kept e
  capped : s.dup_offers ≡ min 11 (dups_of e i)

-- an offer that isn't kept
held_skip : (v : Layout) (i : ℕ) (used : List Bool) (kept : ℕ) (e : List OfferVerdict) (j : OfferVerdict) →
    j.kept ≡ false → Held v i used kept e → Held v i used kept (j ∷ e)
held_skip v i used kept e j k t = grind arith

-- a kept one: its fragment isn't in range, or it is used now, and no other is more
held_keep : (v : Layout) (i : ℕ) (used used' : List Bool) (kept : ℕ) (e : List OfferVerdict) (j : OfferVerdict) →
    j.kept ≡ true → j.inode ≡ i → length used' ≡ length used →
    (is_fragment_in_range v j.fragment ≡ true → is_set used' j.fragment ≡ true) →
    ((f : ℕ) → (j.fragment ≡ f → ⊥) → is_set used' f ≡ is_set used f) →
    Held v i used kept e → Held v i used' (kept + 1) (j ∷ e)
held_keep v i used used' kept e j k mine len here there t = record {
  used_is = grind arith;
  long = len ∙ t.long;
  kept_is =
      let one : bit (j.kept && j.inode == i) ≡ 1 = (let test = eq-eqb j.inode i mine in rw (k, test) refl) in
      omega (arith, t.kept_is, kept_cons j e i);
}

-- one offer of a Run after at most ten bad Runs
offer_tied : (v : Layout) (i b f : ℕ) (s : Claims) (e : List OfferVerdict) → b ≤ 10 → OfferTie v i s e →
    OfferTie v i (after_offer v s f) (offer_verdict v e (counted_offer i b f) ∷ e)
    × ((offer_verdict v e (counted_offer i b f)).kept ≡ nat_lt s.dup_offers 11)
unfolding offer_verdict
offer_tied v i b f s e few t = go (nat_lt s.dup_offers 11) refl (is_fragment_in_range v f) refl (is_set s.used f) refl
  where
    j : OfferVerdict
    j = offer_verdict v e (counted_offer i b f)

    kept_is : (a : Bool) → nat_lt s.dup_offers 11 ≡ a → (nat_le b 10 && nat_le (dups_of e i) 10) ≡ a
    kept_is a q = let low = le-leb b 10 few in let capped = t.capped in grind (arith, nat_tests)

    keep : (used' : List Bool) → nat_lt s.dup_offers 11 ≡ true → length used' ≡ length s.used →
        (is_fragment_in_range v f ≡ true → is_set used' f ≡ true) →
        ((g : ℕ) → (f ≡ g → ⊥) → is_set used' g ≡ is_set s.used g) →
        Held v i used' (s.kept + 1) (offer_verdict v e (counted_offer i b f) ∷ e)
    keep used' qa len here there = held_keep v i s.used used' s.kept e (offer_verdict v e (counted_offer i b f))
        (kept_is true qa) refl len here there t.held

    go : (a : Bool) → nat_lt s.dup_offers 11 ≡ a → (o : Bool) → is_fragment_in_range v f ≡ o → (u : Bool) → is_set s.used f
        ≡ u →
        OfferTie v i (after_offer v s f) (offer_verdict v e (counted_offer i b f) ∷ e)
        × ((nat_le b 10 && nat_le (dups_of e i) 10) ≡ nat_lt s.dup_offers 11)
    go false qa o qo u qu =
        let ge = ltb-false s.dup_offers 11 qa in
        let stay : after_offer v s f ≡ s = rw qa refl in (
          subst (λ x. OfferTie v i x (offer_verdict v e (counted_offer i b f) ∷ e)) (sym stay) (record {
            held = held_skip v i s.used s.kept e (offer_verdict v e (counted_offer i b f)) (kept_is false qa) t.held;
            capped = omega (arith, t.capped, dups_cons (offer_verdict v e (counted_offer i b f)) e i);
          }),
          kept_is false qa ∙ sym qa,
        )
    go true qa false qo u qu = grind (arith, keep)
    go true qa true qo true qu =
        let mine = eq-eqb i i refl in
        let taken = sym (t.held.used_is f qo) ∙ qu in
        let one : bit ((offer_verdict v e (counted_offer i b f)).dup && i == i) ≡ 1 = rw (qo, taken, mine) refl in
        let low = ltb-true s.dup_offers 11 qa in
        let stay : after_offer v s f
        ≡ record s { kept = s.kept + 1; dup_offers = s.dup_offers + 1; duplicates = slice_set s.duplicates f true } =
        rw (qa, qo, qu) refl in (
          subst (λ x. OfferTie v i x (offer_verdict v e (counted_offer i b f) ∷ e)) (sym stay) (record {
            held = keep s.used qa refl (λ ok. qu) (λ g n. refl);
            capped = omega (arith, t.capped, dups_cons (offer_verdict v e (counted_offer i b f)) e i, one);
          }),
          kept_is true qa ∙ sym qa,
        )
    go true qa true qo false qu = grind (arith, in_range_below, keep, length-set, get_or-set_same, get_or-set_other)

verdicts-append : (v : Layout) (e : List OfferVerdict) (ps qs : List CountedOffer) →
    verdicts v e (ps ++ qs) ≡ verdicts v (verdicts v e ps) qs
verdicts-append v e [] qs = refl
verdicts-append v e (p ∷ ps) qs = verdicts-append v (offer_verdict v e p ∷ e) ps qs

kept_append : (v : Layout) (e : List OfferVerdict) (ps qs : List CountedOffer) →
    kept_by_rule v e (ps ++ qs) ≡ kept_by_rule v e ps ++ kept_by_rule v (verdicts v e ps) qs
kept_append v e [] qs = refl
kept_append v e (p ∷ ps) qs = rw (kept_append v (offer_verdict v e p ∷ e) ps qs) (simp append_assoc)

-- the offers of a Run after at most ten bad ones
offers_tied : (v : Layout) (i b : ℕ) (s : Claims) (e : List OfferVerdict) (fs : List ℕ) → b ≤ 10 → OfferTie v i s e →
    OfferTie v i (after_offers v s fs) (verdicts v e (map (counted_offer i b) fs))
    × (kept_in_offers v i s fs ≡ kept_by_rule v e (map (counted_offer i b) fs))
offers_tied v i b s e [] few t = (t, refl)
offers_tied v i b s e (f ∷ fs) few t =
    let one = offer_tied v i b f s e few t in
    let rest = offers_tied v i b (after_offer v s f) (offer_verdict v e (counted_offer i b f) ∷ e) fs few one.0 in
    (rest.0, cc)

offer_bad : (v : Layout) (s : Claims) (f : ℕ) → (after_offer v s f).bad ≡ s.bad
offer_bad v s f = grind arith

offers_bad : (v : Layout) (s : Claims) (fs : List ℕ) → (after_offers v s fs).bad ≡ s.bad
offers_bad v s [] = refl
offers_bad v s (f ∷ fs) = offers_bad v (after_offer v s f) fs ∙ offer_bad v s f

-- eleven bad Runs or eleven dup offers
abbrev Closed : ℕ → ℕ → List OfferVerdict → Type 0
Closed i b e = (11 ≤ b) ⊎ (11 ≤ dups_of e i)

not_kept : (v : Layout) (i b f : ℕ) (e : List OfferVerdict) → Closed i b e →
    (offer_verdict v e (counted_offer i b f)).kept ≡ false
unfolding offer_verdict
not_kept v i b f e h = grind arith

still_closed : (i b : ℕ) (j : OfferVerdict) (e : List OfferVerdict) → Closed i b e → Closed i b (j ∷ e)
still_closed i b j e (inl many) = inl many
still_closed i b j e (inr many) = inr (omega (arith, many, dups_cons j e i))

skip_offers : (v : Layout) (i b : ℕ) (s : Claims) (e : List OfferVerdict) (fs : List ℕ) → Closed i b e →
    Held v i s.used s.kept e →
    Held v i s.used s.kept (verdicts v e (map (counted_offer i b) fs))
    × Closed i b (verdicts v e (map (counted_offer i b) fs))
    × (kept_by_rule v e (map (counted_offer i b) fs) ≡ [])
skip_offers v i b s e [] c h = (h, c, refl)
skip_offers v i b s e (f ∷ fs) c h =
    let j = offer_verdict v e (counted_offer i b f) in
    let no_keep = not_kept v i b f e c in
    let rest = skip_offers v i b s (j ∷ e) fs (still_closed i b j e c) (held_skip v i s.used s.kept e j no_keep h) in (
      rest.0,
      rest.1,
      ap (λ k. (if k then uncounted (counted_offer i b f) ∷ [] else [])
          ++ kept_by_rule v (j ∷ e) (map (counted_offer i b) fs)) no_keep ∙ rest.2,
    )

-- the fold's state between steps, and what was judged
record Tie (v : Layout) (i b : ℕ) (s : Claims) (e : List OfferVerdict) : Type 0 where
  held : Held v i s.used s.kept e
  ready : is_open s ≡ (nat_lt b 11 && nat_lt (dups_of e i) 11)
  same : is_open s ≡ true → (s.bad ≡ b) × (s.dup_offers ≡ dups_of e i)

shut_closed : (i b b' : ℕ) (e : List OfferVerdict) → (nat_lt b 11 && nat_lt (dups_of e i) 11) ≡ false → b ≤ b' →
    Closed i b' e
shut_closed i b b' e q le = grind arith

-- the offers of a Run that is past the cut, and of one that isn't
closed_tied : (v : Layout) (i b : ℕ) (s : Claims) (e : List OfferVerdict) (fs : List ℕ) → is_open s ≡ false →
    Closed i b e → Held v i s.used s.kept e →
    Tie v i b s (verdicts v e (map (counted_offer i b) fs)) × ([] ≡ kept_by_rule v e (map (counted_offer i b) fs))
closed_tied v i b s e fs shut c h = let done = skip_offers v i b s e fs c h in grind arith

open_tied : (v : Layout) (i b : ℕ) (s : Claims) (e : List OfferVerdict) (fs : List ℕ) → b ≤ 10 → s.bad ≡ b →
    OfferTie v i s e →
    Tie v i b (after_offers v s fs) (verdicts v e (map (counted_offer i b) fs))
    × (kept_in_offers v i s fs ≡ kept_by_rule v e (map (counted_offer i b) fs))
open_tied v i b s e fs few same t = let done = offers_tied v i b s e fs few t in grind (arith, offers_bad)

abbrev StepTied : Layout → ℕ → ℕ → Claims → List OfferVerdict → Step → Type 0
StepTied v i b s e step = Tie v i (bad_runs_after v b step) (after_step v s step)
    (verdicts v e (step_offers v i b step)) × (kept_in_step v i s step ≡ kept_by_rule v e (step_offers v i b step))

step_tied : (v : Layout) (i b : ℕ) (s : Claims) (e : List OfferVerdict) (step : Step) → Tie v i b s e →
    StepTied v i b s e step
step_tied v i b s e Gap t = (t, refl)
step_tied v i b s e Tail t = grind arith
step_tied v i b s e (Run start len block) t = one (is_open s) refl (is_run_in_range v start len) refl
  where
    fs : List ℕ
    fs = range_with_len start len

    bad : Claims
    bad = record s { runs = s.runs + 1; bad = s.bad + 1 }

    one : (o : Bool) → is_open s ≡ o → (r : Bool) → is_run_in_range v start len ≡ r →
        StepTied v i b s e (Run start len block)
    one false q true qr = let done = closed_tied v i b s e fs in grind (arith, shut_closed)
    one false q false qr = let done = closed_tied v i (b + 1) s e fs in grind (arith, shut_closed)
    one true q true qr = let done = open_tied v i b (record s { runs = s.runs + 1 }) e fs in grind (arith, nat_tests)
    one true q false qr =
        let full = closed_tied v i (b + 1) bad e fs in
        let open_bad = open_tied v i (b + 1) bad e fs in
        grind (arith, nat_tests)

-- how many bad Runs some steps have, where `bad_runs` are before
abbrev bads_of : Layout → ℕ → List Step → ℕ
bads_of v bad_runs [] = bad_runs
bads_of v bad_runs (step ∷ steps) = bads_of v (bad_runs_after v bad_runs step) steps

steps_tied : (v : Layout) (i b : ℕ) (s : Claims) (e : List OfferVerdict) (steps : List Step) → Tie v i b s e →
    Tie v i (bads_of v b steps) (after_steps v s steps) (verdicts v e (offers_of_steps v i b steps))
    × (kept_in_steps v i s steps ≡ kept_by_rule v e (offers_of_steps v i b steps))
steps_tied v i b s e [] t = (t, refl)
steps_tied v i b s e (step ∷ steps) t =
    let one = step_tied v i b s e step t in
    let rest = steps_tied v i (bad_runs_after v b step) (after_step v s step) (verdicts v e (step_offers v i b step))
    steps in
    grind (arith, verdicts-append, kept_append)

-- the fold between inodes, and what was judged
record Agrees (v : Layout) (s : Claims) (e : List OfferVerdict) : Type 0 where
  used : (f : ℕ) → is_fragment_in_range v f ≡ true → is_set s.used f ≡ (is_reserved v f || is_claimed_before e f)
  long : length s.used ≡ v.size

abbrev are_before : ℕ → List OfferVerdict → Bool
are_before n e = list_all (λ j. nat_lt j.inode n) e

none_before : (n : ℕ) (e : List OfferVerdict) → are_before n e ≡ true → (dups_of e n ≡ 0) × (kept_of e n ≡ 0)
none_before n [] h = (refl, refl)
none_before n (j ∷ e) h = let rest = none_before n e in grind (arith, nat_tests, dups_cons, kept_cons)

before_more : (n m : ℕ) (e : List OfferVerdict) → n ≤ m → are_before n e ≡ true → are_before m e ≡ true
before_more n m [] le h = refl
before_more n m (j ∷ e) le h = let more = before_more n m e le in grind (arith, nat_tests)

-- the verdicts of offers of inodes below n
verdicts_before : (v : Layout) (n i b : ℕ) (e : List OfferVerdict) (fs : List ℕ) → i < n → are_before n e ≡ true →
    are_before n (verdicts v e (map (counted_offer i b) fs)) ≡ true
unfolding offer_verdict
verdicts_before v n i b e [] lt h = h
verdicts_before v n i b e (f ∷ fs) lt h =
    let more = verdicts_before v n i b (offer_verdict v e (counted_offer i b f) ∷ e) fs lt in grind (arith, nat_tests)

steps_before : (v : Layout) (n i b : ℕ) (e : List OfferVerdict) (steps : List Step) → i < n → are_before n e ≡ true →
    are_before n (verdicts v e (offers_of_steps v i b steps)) ≡ true
steps_before v n i b e [] lt h = h
steps_before v n i b e (step ∷ steps) lt h =
    let more = steps_before v n i (bad_runs_after v b step) (verdicts v e (step_offers v i b step)) steps lt in
    grind (arith, verdicts-append, verdicts_before)

-- the numbers of inodes rise
abbrev Rising : ℕ → List Owner → Type 0
Rising n [] = Unit {0}
Rising n (o ∷ os) = (n ≤ o.number) × Rising (o.number + 1) os

owners_tied : (v : Layout) (n : ℕ) (s : Claims) (e : List OfferVerdict) (os : List Owner) → Agrees v s e →
    are_before n e ≡ true → Rising n os →
    Agrees v (after_owners v s os) (verdicts v e (all_offers v os))
    × (kept_in_owners v s os ≡ kept_by_rule v e (all_offers v os))
owners_tied v n s e [] a h r = (a, refl)
owners_tied v n s e (o ∷ os) a h r =
    let none = none_before o.number e (before_more n o.number e r.0 h) in
    let start : Tie v o.number 0 (at_next_inode s) e = grind arith in
    let one = steps_tied v o.number 0 (at_next_inode s) e o.steps start in
    let rest = owners_tied v (o.number + 1) (after_owner v s o) (verdicts v e (offers_of_steps v o.number 0 o.steps))
    os in
    grind (arith, verdicts-append, kept_append, steps_before, before_more)

rising_range : (v : Layout) (image : List ℕ) (n k : ℕ) → Rising n (map (owner_of v image) (range_with_len n k))
unfolding owner_of
rising_range v image n zero = tt
rising_range v image n (suc k) = (omega arith, rising_range v image (n + 1) k)

pub keeps_by_rule : (v : Layout) (image : List ℕ) → KeepsByRule v (owners_of v image)
unfolding owners_of no_claims is_fragment_in_range
keeps_by_rule v image =
    let all = owners_tied v 2 (no_claims v) [] (owners_of v image) (grind (arith, reserved_bit, reserved_length)) refl
    (rising_range v image 2 (v.ncg * v.ipg - 2)) in
    record { offers = all.1; used = all.0.used }
