-- A fragment is claimed just where an inode keeps an offer of it.
use Rattle.std.proofs.Common.{◌≡◌, ◌≢◌, ◌∙◌, ℕ, zero, suc, ◌+◌, ◌*◌, ◌-◌, ◌<◌, ◌≤◌, ◌==◌, Bool, true, false, ◌||◌, List}
use Rattle.std.proofs.Common.{[], ◌∷◌, ◌++◌, length, length-set, arith, refl, inl, inr, nat_lt, if◌then◌else◌}
use Rattle.std.proofs.{Common.slice_set, lemmas.{Bool.{cases_Bool, Decides.nat_tests}, List.get_or-set_other}}
use Rattle.std.proofs.lemmas.List.{get_or-set_same, Folds.list_any-append, FromFn.get_or-map-range_with_len}
use Rattle.std.specs.List.{flat_map, list_any, range_with_len}
use Rattle.ffs_volume.proofs.{OwnerLaws.before_next, Potentials.in_range_below, CutLaws.before_length}
use Rattle.ffs_volume.specs.Blocks.Claims.{Claims, no_claims, reserved_map, at_next_inode, is_open, is_set, after_offer}
use Rattle.ffs_volume.specs.Blocks.{Claims.{after_offers, after_run, after_step, after_steps}, Inodes.inode_of}
use Rattle.ffs_volume.specs.Blocks.{KeptOffers.{Offer, offer_of, kept_in_offers, kept_in_run}, KeptSteps.claims_before}
use Rattle.ffs_volume.specs.{Blocks.{Owners.{owner_of, owners_of}, Steps.steps_of}, Disk.Areas.is_fragment_in_range}
use Rattle.ffs_volume.specs.{Disk.Areas.{is_reserved, is_run_in_range}, Laws.Geometry.IsAcceptedLayout}
use Rattle.ffs_volume.specs.declared.{Layout.Layout, Step.{Step, TheVariants.{Run, Tail, Gap}}}
use Rattle.ffs_volume.specs.Find.Owner.{indirect_in, keeper_lines, keeper_text, keeps_in_step, keeper_lines_of_inode}
use Rattle.ffs_volume.specs.{Find.Owner.{keeper_lines_of_step, keeper_lines_of_steps}, Blocks.Claims.all_claims}

-- there is a line
abbrev pub has_line : List (List ℕ) → Bool
has_line [] = false
has_line (x ∷ xs) = true

more_lines : (xs ys : List (List ℕ)) → has_line (xs ++ ys) ≡ (has_line xs || has_line ys)
more_lines [] ys = refl
more_lines (x ∷ xs) ys = refl

-- some offer is of the fragment f
abbrev any_of : ℕ → List Offer → Bool
any_of f os = list_any (λ o. o.fragment == f) os

any_of-append : (f : ℕ) (xs ys : List Offer) → any_of f (xs ++ ys) ≡ (any_of f xs || any_of f ys)
any_of-append f xs ys = list_any-append (λ o. o.fragment == f) xs ys

-- what claims have of f after some offers that are kept
record Uses (f : ℕ) (s s' : Claims) (kept : Bool) : Type 0 where
  is : is_set s'.used f ≡ (is_set s.used f || kept)
  long : length s'.used ≡ length s.used

uses_then : {f : ℕ} {s t u : Claims} {a b : Bool} → Uses f s t a → Uses f t u b → Uses f s u (a || b)
uses_then p q = grind arith

uses_none : (f : ℕ) (s t : Claims) → t.used ≡ s.used → Uses f s t false
uses_none f s t e = grind arith

set_other : (used : List Bool) (f h : ℕ) (b : Bool) → f ≢ h → is_set (slice_set used h b) f ≡ is_set used f
set_other used f h b apart = get_or-set_other used h f b false apart

offer_uses : (v : Layout) (f i : ℕ) (s : Claims) (h : ℕ) → is_fragment_in_range v f ≡ true → length s.used ≡ v.size →
    Uses f s (after_offer v s h) (any_of f (if nat_lt s.dup_offers 11 then offer_of i h ∷ [] else []))
offer_uses v f i s h ok long = grind (arith, in_range_below, get_or-set_same, length-set, set_other)

offers_use : (v : Layout) (f i : ℕ) (s : Claims) (fs : List ℕ) → is_fragment_in_range v f ≡ true →
    length s.used ≡ v.size → Uses f s (after_offers v s fs) (any_of f (kept_in_offers v i s fs))
offers_use v f i s [] ok long = uses_none f s s refl
offers_use v f i s (h ∷ fs) ok long =
    let one = offer_uses v f i s h ok long in
    let more = offers_use v f i (after_offer v s h) fs ok (one.long ∙ long) in
    rw (any_of-append f (if nat_lt s.dup_offers 11 then offer_of i h ∷ [] else [])
    (kept_in_offers v i (after_offer v s h) fs))
    (uses_then one more)

-- the counts of an inode are no part of it
uses_from : {f : ℕ} {s t u : Claims} {kept : Bool} → t.used ≡ s.used → Uses f t u kept → Uses f s u kept
uses_from e p = grind arith

run_uses : (v : Layout) (f i : ℕ) (s : Claims) (start len : ℕ) → is_fragment_in_range v f ≡ true →
    length s.used ≡ v.size → Uses f s (after_run v s start len) (any_of f (kept_in_run v i s start len))
run_uses v f i s start len ok long =
    let fs = range_with_len start len in
    let seen : Claims = record s { runs = s.runs + 1 } in
    let bad : Claims = record s { runs = s.runs + 1; bad = s.bad + 1 } in
    elim (cases_Bool (is_run_in_range v start len)) [
      | inl r ↦ rw r (uses_from refl (offers_use v f i seen fs ok long))
      | inr r ↦ elim (cases_Bool (s.bad == 10)) [
        | inl z ↦ rw (r, z) (uses_none f s bad refl)
        | inr z ↦ rw (r, z) (uses_from refl (offers_use v f i bad fs ok long))
      ]
    ]

step_uses : (v : Layout) (f i earlier : ℕ) (s : Claims) (step : Step) → is_fragment_in_range v f ≡ true →
    length s.used ≡ v.size → Uses f s (after_step v s step) (has_line (keeper_lines_of_step v f i earlier s step))
step_uses v f i earlier s Gap ok long = uses_none f s s refl
step_uses v f i earlier s Tail ok long = grind arith
step_uses v f i earlier s (Run start len block) ok long =
    let line = line_there (keeps_in_step v f i s (Run start len block)) (keeper_text i earlier block) in
    elim (cases_Bool (is_open s)) [
      | inl q ↦ rw line (rw q (run_uses v f i s start len ok long))
      | inr q ↦ rw line (rw q (uses_none f s s refl))
    ]
  where
    line_there : (b : Bool) (line : List ℕ) → has_line (if b then line ∷ [] else []) ≡ b
    line_there true line = refl
    line_there false line = refl

steps_use : (v : Layout) (f i earlier : ℕ) (s : Claims) (steps : List Step) → is_fragment_in_range v f ≡ true →
    length s.used ≡ v.size → Uses f s (after_steps v s steps) (has_line (keeper_lines_of_steps v f i earlier s steps))
steps_use v f i earlier s [] ok long = uses_none f s s refl
steps_use v f i earlier s (step ∷ steps) ok long =
    let one = step_uses v f i earlier s step ok long in
    let more = steps_use v f i (earlier + indirect_in step) (after_step v s step) steps ok (one.long ∙ long) in
    rw (more_lines (keeper_lines_of_step v f i earlier s step)
    (keeper_lines_of_steps v f i (earlier + indirect_in step) (after_step v s step) steps)) (uses_then one more)

-- an inode, and inodes one after another
inode_uses : (v : Layout) (b : List ℕ) (f x : ℕ) → IsAcceptedLayout v → is_fragment_in_range v f ≡ true → 2 ≤ x →
    Uses f (claims_before v b x) (claims_before v b (x + 1)) (has_line (keeper_lines_of_inode v b f x))
unfolding owner_of keeper_lines_of_inode
inode_uses v b f x g ok low =
    let s = claims_before v b x in
    rw (before_next v b x low)
    (uses_from refl (steps_use v f x 0 (at_next_inode s) (steps_of v (inode_of v b x) b) ok (before_length v b x g)))

inodes_use : (v : Layout) (b : List ℕ) (f x k : ℕ) → IsAcceptedLayout v → is_fragment_in_range v f ≡ true → 2 ≤ x →
    Uses f (claims_before v b x) (claims_before v b (x + k))
    (has_line (flat_map (keeper_lines_of_inode v b f) (range_with_len x k)))
inodes_use v b f x zero g ok low = grind arith
inodes_use v b f x (suc k) g ok low =
    let one = inode_uses v b f x g ok low in
    let more = inodes_use v b f (x + 1) k g ok (omega arith) in
    let place : x + suc k ≡ x + 1 + k = omega arith in
    rw (
      place,
      more_lines (keeper_lines_of_inode v b f x)
          (flat_map (keeper_lines_of_inode v b f) (range_with_len (x + 1) k)),
    )
    (uses_then one more)

reserved_bit : (v : Layout) (f : ℕ) → f < v.size → is_set (reserved_map v) f ≡ is_reserved v f
unfolding reserved_map
reserved_bit v f low = get_or-map-range_with_len (is_reserved v) 0 v.size f f false low (omega arith)

pub in_range_is : (v : Layout) (f : ℕ) → f < v.size → is_reserved v f ≡ false → is_fragment_in_range v f ≡ true
unfolding is_fragment_in_range is_reserved
in_range_is v f low e = grind (arith, nat_tests)

-- the claims of all inodes, which begin with the reserved fragments
all_are : (v : Layout) (b : List ℕ) (f : ℕ) → is_set (claims_before v b (2 + (v.ncg * v.ipg - 2))).used f
    ≡ (is_set (claims_before v b 2).used f
    || has_line (flat_map (keeper_lines_of_inode v b f) (range_with_len 2 (v.ncg * v.ipg - 2)))) →
    is_set (reserved_map v) f ≡ false →
    is_set (all_claims v b).used f ≡ has_line (keeper_lines v b f)
unfolding all_claims owners_of claims_before no_claims keeper_lines
all_are v b f all first = grind arith

-- a fragment that isn't reserved is claimed where an inode has a line
pub claimed_is : (v : Layout) (b : List ℕ) (f : ℕ) → IsAcceptedLayout v → f < v.size → is_reserved v f ≡ false →
    is_set (all_claims v b).used f ≡ has_line (keeper_lines v b f)
claimed_is v b f g low e = grind (arith, in_range_is, inodes_use, all_are, reserved_bit)
