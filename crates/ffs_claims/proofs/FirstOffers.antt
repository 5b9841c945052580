-- Each fragment with a DUP line has a kept offer, so that none is left to report once all were gone over.
use Rattle.std.proofs.Common.{◌≡◌, inl, inr, ℕ, suc, ◌+◌, ◌==◌, Bool, true, false, ◌||◌, if◌then◌else◌, List, [], ◌∷◌}
use Rattle.std.proofs.Common.{◌++◌, length, length-set, slice_set, nat_lt, arith, refl, ap, ◌∙◌}
use Rattle.std.proofs.{Math.ListN.get_or-eq_default, lemmas.Bool.{cases_Bool, cases_eq, cases_lt, Decides.nat_tests}}
use Rattle.std.{proofs.lemmas.List.{get_or-set_other, get_or-set_same, Folds.list_any-append}, specs.List.list_any}
use Rattle.std.specs.List.{range_with_len}
use Rattle.ffs_volume.specs.Blocks.{BlockCheck.{unreported_after, set_count}, Owners.{Owner, owners_of}, Claims.Claims}
use Rattle.ffs_volume.specs.Blocks.Claims.{after_offer, after_offers, after_owner, after_owners, after_run, after_step}
use Rattle.ffs_volume.specs.Blocks.Claims.{after_steps, all_claims, at_next_inode, is_set, no_claims}
use Rattle.ffs_volume.specs.Blocks.KeptOffers.{Offer, kept_in_offers, kept_in_owners, kept_in_run, kept_in_step}
use Rattle.ffs_volume.specs.{Blocks.KeptOffers.{kept_in_steps, offer_of}, declared.{Layout.Layout, Step.Step}}
use Rattle.ffs_volume.{specs.declared.Step.TheVariants.Run, proofs.Flags.unset}
use Rattle.ffs_maps.specs.Bits.{bits_of}
use Rattle.ffs_workspace.specs.{Holds.{HoldsPhase1, has_unreported_dups}, declared.workspace.Workspace.Workspace}
use Rattle.ffs_claims.specs.Reporting.{OffersReported}

-- one of the offers is of the fragment f
abbrev has_offer : ℕ → List Offer → Bool
has_offer f os = list_any (λ o. o.fragment == f) os

-- where f has a DUP line after some offers that are kept, it had one before, or one of them is of f
record Covers (f : ℕ) (s : Claims) (os : List Offer) (t : Claims) : Type 0 where
  has : is_set t.duplicates f ≡ true → (is_set s.duplicates f || has_offer f os) ≡ true

module _ (f : ℕ) where
  covers_same : (s t : Claims) (os : List Offer) → t.duplicates ≡ s.duplicates → Covers f s os t
  covers_same s t os same = grind arith

  covers_then : (s t u : Claims) (xs ys : List Offer) → Covers f s xs t → Covers f t ys u → Covers f s (xs ++ ys) u
  covers_then s t u xs ys p q = let both = list_any-append (λ (o : Offer). o.fragment == f) xs ys in grind arith

  covers_offer : (v : Layout) (i : ℕ) (s : Claims) (x : ℕ) →
      Covers f s (if nat_lt s.dup_offers 11 then offer_of i x ∷ [] else []) (after_offer v s x)
  covers_offer v i s x = elim (cases_eq f x) [
    | inl same ↦ grind (arith, nat_tests)
    | inr other ↦
        let still = get_or-set_other s.duplicates x f true false other in
        grind (arith, nat_tests)
  ]

  covers_offers : (v : Layout) (i : ℕ) (s : Claims) (fs : List ℕ) →
      Covers f s (kept_in_offers v i s fs) (after_offers v s fs)
  covers_offers v i s [] = covers_same s s [] refl
  covers_offers v i s (x ∷ fs) = covers_then s (after_offer v s x) (after_offers v (after_offer v s x) fs) _
      (kept_in_offers v i (after_offer v s x) fs) (covers_offer v i s x) (covers_offers v i (after_offer v s x) fs)

  covers_run : (v : Layout) (i : ℕ) (s : Claims) (start len : ℕ) →
      Covers f s (kept_in_run v i s start len) (after_run v s start len)
  covers_run v i s start len =
      let good = covers_offers v i (record s { runs = s.runs + 1 }) (range_with_len start len) in
      let bad = covers_offers v i (record s { runs = s.runs + 1; bad = s.bad + 1 }) (range_with_len start len) in
      grind arith

  covers_step : (v : Layout) (i : ℕ) (s : Claims) (step : Step) → Covers f s (kept_in_step v i s step) (after_step v s step)
  covers_step v i s (Run start len block) = let run = covers_run v i s start len in grind arith
  covers_step v i s other = grind arith

  covers_steps : (v : Layout) (i : ℕ) (s : Claims) (steps : List Step) →
      Covers f s (kept_in_steps v i s steps) (after_steps v s steps)
  covers_steps v i s [] = covers_same s s [] refl
  covers_steps v i s (step ∷ steps) = covers_then s (after_step v s step) (after_steps v (after_step v s step) steps)
      (kept_in_step v i s step) (kept_in_steps v i (after_step v s step) steps) (covers_step v i s step)
      (covers_steps v i (after_step v s step) steps)

  covers_owners : (v : Layout) (s : Claims) (os : List Owner) → Covers f s (kept_in_owners v s os) (after_owners v s os)
  covers_owners v s [] = covers_same s s [] refl
  covers_owners v s (o ∷ os) =
      let one = covers_steps v o.number (at_next_inode s) o.steps in
      covers_then s (after_owner v s o) (after_owners v (after_owner v s o) os)
      (kept_in_steps v o.number (at_next_inode s) o.steps) (kept_in_owners v (after_owner v s o) os)
      (record { has = one.has }) (covers_owners v (after_owner v s o) os)

  -- what is cleared isn't set
  cleared : (bits : List Bool) → is_set (slice_set bits f false) f ≡ false
  cleared bits = elim (cases_lt f (length bits)) [
    | inl low ↦ get_or-set_same bits f false false low
    | inr past ↦ get_or-eq_default (slice_set bits f false) false (omega (arith, past, length-set bits f false))
  ]

  -- what is left to report was to be reported, and no offer of it was gone over
  record IsLeft (dup : List Bool) (os : List Offer) : Type 0 where
    before : is_set dup f ≡ true
    none : has_offer f os ≡ false

  left_is : (dup : List Bool) (os : List Offer) → is_set (unreported_after dup os) f ≡ true → IsLeft dup os
  left_is dup [] left = record { before = left; none = refl }
  left_is dup (o ∷ os) left =
      let more = left_is (if is_set dup o.fragment then slice_set dup o.fragment false else dup) os left in
      elim (cases_eq f o.fragment) [
        | inl same ↦ let clear = cleared dup in grind (arith, nat_tests)
        | inr other ↦
            let still = get_or-set_other dup o.fragment f false false other in
            grind (arith, nat_tests)
      ]

none_set : (bits : List Bool) → ((f : ℕ) → is_set bits f ≡ false) → set_count bits ≡ 0
none_set [] clear = refl
none_set (true ∷ bits) clear = absurd (let first = clear 0 in cc)
none_set (false ∷ bits) clear = none_set bits (λ f. clear (suc f))

-- all kept offers were gone over
pub all_reported : (v : Layout) (bytes : List ℕ) (old new : Workspace) → HoldsPhase1 v bytes old →
    OffersReported (kept_in_owners v (no_claims v) (owners_of v bytes)) old new → has_unreported_dups new ≡ false
unfolding all_claims no_claims
all_reported v bytes old new h t =
    let os = kept_in_owners v (no_claims v) (owners_of v bytes) in
    let dup = (all_claims v bytes).duplicates in
    let clear : (f : ℕ) → is_set (unreported_after dup os) f ≡ false = λ f. elim (cases_Bool (is_set (unreported_after dup os) f)) [
      | inl left ↦
          let is = left_is f dup os left in
          let has = (covers_owners f v (no_claims v) (owners_of v bytes)).has is.before in
          let none = unset v.size f in
          absurd (grind arith)
      | inr none ↦ none
    ] in
    let now = t.duplicates ∙ ap (λ d. unreported_after d os) h.duplicates in
    let count : set_count (bits_of new.duplicates) ≡ 0 = ap set_count now ∙ none_set (unreported_after dup os) clear in
    rw count refl
