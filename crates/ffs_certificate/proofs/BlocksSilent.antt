-- Phases 1 and 1b report nothing exactly where every fragment has one owner at most.
use Rattle.std.proofs.Common.{inl, inr, ◌≡◌, ℕ, ◌+◌, ◌<◌, ◌≤◌, Bool, true, false, cond, arith, refl, sym, ap, ◌∙◌, List}
use Rattle.std.proofs.{Common.{[], ◌∷◌, length, nat_lt, ◌==◌, slice_set, ◌++◌, ◌↔◌, ◌&&◌}, lemmas.Bool.and_parts}
use Rattle.std.proofs.lemmas.{Bool.{ltb-true, cases_lt, Decides.nat_tests}, List.{get_or-set_same, get_or-set_other}}
use Rattle.std.proofs.lemmas.List.{length-set, get_or_past, FromFn.get_or-map-range_with_len}
use Rattle.std.proofs.lemmas.List.{FromFn.length-map-range_with_len, Sums.sum_by-cons, Folds.list_all-append}
use Rattle.std.specs.List.{list_all}
use Rattle.ffs_volume.specs.{declared.{Step.Step, Layout.Layout}, Blocks.BlockCheck.{first_offer_lines, phase1_lines}}
use Rattle.ffs_volume.specs.Blocks.{BlockCheck.phase1b_lines, Claims.{is_set, reserved_map, no_claims}, Owners.Owner}
use Rattle.ffs_volume.specs.{Blocks.{Owners.{fragments_of, all_steps}, KeptOffers.Offer}, Consistent.BlocksRight.times}
use Rattle.ffs_volume.specs.{Consistent.BlocksRight.{is_step_in_range, BlocksRight}, Disk.Areas.is_fragment_in_range}
use Rattle.ffs_volume.{specs.Disk.Areas.is_reserved, proofs.Flags.unset}
use Rattle.ffs_certificate.proofs.BlockLaws.{claim, are_unclaimed, is_nil, nil_append, run_ok, owners_say, owners_claim, Quiet}
use Rattle.ffs_certificate.proofs.BlockLaws.{owners_parts, owners_from}

abbrev pub bit : Bool → ℕ
bit b = cond b 1 0

pub times_cons : (f g : ℕ) (fs : List ℕ) → times f (g ∷ fs) ≡ bit (g == f) + times f fs
times_cons f g fs = sum_by-cons (λ h. cond (h == f) 1 0) g fs

-- a bit that is set where it wasn't
pub bit_set : (used : List Bool) (g f : ℕ) → g < length used → is_set used g ≡ false →
    bit (is_set (slice_set used g true) f) ≡ bit (g == f) + bit (is_set used f)
bit_set used g f below free = grind (arith, get_or-set_same, get_or-set_other)

-- each number of the list is in one place, and isn't used
abbrev pub IsNew : List Bool → List ℕ → Type 0
IsNew used fs = (f : ℕ) → times f fs + bit (is_set used f) ≤ 1

abbrev pub are_below : ℕ → List ℕ → Bool
are_below n fs = list_all (λ f. nat_lt f n) fs

bit_small : (b : Bool) → bit b ≤ 1
bit_small b = grind arith

pub fresh_new : (used : List Bool) (fs : List ℕ) → are_below (length used) fs ≡ true → are_unclaimed used fs ≡ true →
    IsNew used fs
fresh_new used [] below e = λ f. omega (arith, bit_small (is_set used f))
fresh_new used (g ∷ fs) below e =
    let rest = fresh_new (slice_set used g true) fs (grind (arith, length-set)) (grind arith) in
    λ f. let here = bit_set used g f (grind (arith, nat_tests)) (grind (arith, nat_tests)) in
    omega (arith, rest f, times_cons f g fs)

pub new_fresh : (used : List Bool) (fs : List ℕ) → are_below (length used) fs ≡ true → IsNew used fs →
    are_unclaimed used fs ≡ true
new_fresh used [] below new = refl
new_fresh used (g ∷ fs) below new =
    let a = and_parts (nat_lt g (length used)) (are_below (length used) fs) below in
    let here = new g in
    let free : is_set used g ≡ false = (let more = times_cons g g fs in grind arith) in
    let rest = new_fresh (slice_set used g true) fs (ap (λ n. are_below n fs) (length-set used g true) ∙ a.1)
    (λ f. omega (arith, new f, times_cons f g fs, bit_set used g f (ltb-true g (length used) a.0) free)) in
    rw free rest

-- after the marks of new numbers
pub marked_bit : (used : List Bool) (fs : List ℕ) → are_below (length used) fs ≡ true → are_unclaimed used fs ≡ true → (f : ℕ) →
    bit (is_set (claim used fs) f) ≡ times f fs + bit (is_set used f)
marked_bit used [] below e f = omega arith
marked_bit used (g ∷ fs) below e f =
    let rest = marked_bit (slice_set used g true) fs (grind (arith, length-set)) (grind arith) f in
    let here = bit_set used g f (grind (arith, nat_tests)) (grind (arith, nat_tests)) in
    omega (arith, rest, times_cons f g fs, here)

-- no number from n on is in a list of numbers below n
pub times_past : (n f : ℕ) (fs : List ℕ) → are_below n fs ≡ true → n ≤ f → times f fs ≡ 0
times_past n f [] below le = refl
times_past n f (g ∷ fs) below le = let rest = times_past n f fs in grind (arith, nat_tests, times_cons)

pub nil_is : {X : Type 0} (xs : List X) → is_nil xs ≡ true → xs ≡ []
nil_is xs h = grind arith

in_range_below : (v : Layout) (fs : List ℕ) → list_all (is_fragment_in_range v) fs ≡ true → are_below v.size fs ≡ true
unfolding is_fragment_in_range
in_range_below v [] e = refl
in_range_below v (f ∷ fs) e = let rest = in_range_below v fs in grind arith

-- the fragments of Runs in range are below the size
pub runs_below : (v : Layout) (steps : List Step) → list_all (is_step_in_range v) steps ≡ true →
    are_below v.size (fragments_of steps) ≡ true
runs_below v [] e = refl
runs_below v (step ∷ steps) e = let rest = runs_below v steps in grind (arith, list_all-append, in_range_below, run_ok)

pub reserved_length : (v : Layout) → length (reserved_map v) ≡ v.size
unfolding reserved_map
reserved_length v = length-map-range_with_len (is_reserved v) 0 v.size

pub reserved_bit : (v : Layout) (f : ℕ) → is_set (reserved_map v) f ≡ (nat_lt f v.size && is_reserved v f)
unfolding reserved_map
reserved_bit v f = grind (arith, get_or-map-range_with_len, get_or_past, length-map-range_with_len)

-- where no fragment is marked, no offer is reported
none_first : (dup : List Bool) (os : List Offer) → ((f : ℕ) → is_set dup f ≡ false) → first_offer_lines dup os ≡ []
none_first dup [] h = refl
none_first dup (o ∷ os) h = rw (h o.fragment) (none_first dup os h)

pub quiet_right : (v : Layout) (os : List Owner) → Quiet v (reserved_map v) os → BlocksRight v os
quiet_right v os q =
    let below = runs_below v (all_steps os) q.in_range in
    let long = reserved_length v in
    let new = fresh_new (reserved_map v) (fragments_of (all_steps os)) (rw long below) q.new in
    record {
      classes = q.classes;
      runs = record {
        in_range = q.in_range;
        no_tail = q.no_tail;
        alone = λ f. omega (arith, new f);
        unreserved = λ f e. elim (cases_lt f v.size) [
          | inl low ↦
              let set : bit (is_set (reserved_map v) f) ≡ 1 = grind (arith, reserved_bit) in
              omega (arith, new f)
          | inr past ↦ times_past v.size f _ below past
        ];
        counted = q.counted;
      };
    }

pub right_quiet : (v : Layout) (os : List Owner) → BlocksRight v os → Quiet v (reserved_map v) os
right_quiet v os r =
    let below = runs_below v (all_steps os) r.runs.in_range in
    let long = reserved_length v in
    grind (arith, new_fresh, one)
  where
    one : (f : ℕ) (b : Bool) → is_set (reserved_map v) f ≡ b → times f (fragments_of (all_steps os)) + bit b ≤ 1
    one f false e = omega (arith, r.runs.alone f)
    one f true e = grind (arith, reserved_bit)

-- no line of phase 1, or of phases 1 and 1b
pub phase1_silent : (v : Layout) (os : List Owner) → (phase1_lines v os ≡ []) ↔ BlocksRight v os
unfolding phase1_lines no_claims
phase1_silent v os = (
  (λ e. quiet_right v os (owners_parts v (reserved_map v) os (sym (owners_say v (no_claims v) os) ∙ ap is_nil e))),
  (λ r. nil_is _ (owners_say v (no_claims v) os ∙ owners_from v (reserved_map v) os (right_quiet v os r))),
)

pub phase1b_silent : (v : Layout) (os : List Owner) → BlocksRight v os → phase1b_lines v os ≡ []
unfolding phase1b_lines no_claims
phase1b_silent v os r = grind (arith, owners_claim, owners_from, right_quiet, none_first, unset)

pub blocks_silent : (v : Layout) (os : List Owner) → (phase1_lines v os ++ phase1b_lines v os ≡ []) ↔ BlocksRight v os
blocks_silent v os = (
  (λ e. let parts = and_parts (is_nil (phase1_lines v os)) (is_nil (phase1b_lines v os))
      (sym (nil_append (phase1_lines v os) (phase1b_lines v os)) ∙ ap is_nil e) in
      (phase1_silent v os).0 (nil_is _ parts.0)),
  (λ r. let first = (phase1_silent v os).1 r in let second = phase1b_silent v os r in rw (first, second) refl),
)
