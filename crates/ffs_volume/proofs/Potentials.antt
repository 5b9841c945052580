-- What the Runs that are seen and the offers that are kept use up, over the steps of an inode.
use Rattle.std.proofs.Common.{◌≡◌, ℕ, ◌+◌, ◌<◌, ◌≤◌, Bool, true, false, if◌then◌else◌, nat_lt, List, [], ◌∷◌, length}
use Rattle.std.proofs.Common.{suc, arith, ◌∙◌, length-set, slice_index, All}
use Rattle.std.proofs.lemmas.{Bool.{and_parts, cond_both, Decides.nat_tests}, List.Elements.{All-head, All-tail}}
use Rattle.std.proofs.lemmas.List.{FromFn.{length-range_with_len, get_or-range_with_len}, Sums.count_by-le-length}
use Rattle.std.{proofs.lemmas.List.Sums.sum_by-set, specs.List.range_with_len}
use Rattle.ffs_volume.{proofs.{Below.all_below-at, StepLaws.steps_long}, specs.Blocks.Claims.{Claims, at_next_inode}}
use Rattle.ffs_volume.specs.Blocks.Claims.{is_open, after_offer, after_offers, after_run, after_step, after_steps}
use Rattle.ffs_volume.specs.{Blocks.{Claims.after_owner, Owners.owner_of}, Disk.Areas.is_fragment_in_range}
use Rattle.ffs_volume.specs.{Disk.Areas.is_run_in_range, Laws.ClaimBounds.{potential, ClaimBound}}
use Rattle.ffs_volume.specs.{Laws.{Geometry.IsAcceptedLayout, RunLengths.HasLength}, declared.Layout.Layout}
use Rattle.ffs_volume.specs.declared.Step.{Step, TheVariants.{Run, Tail, Gap}}

-- a fact of a choice of two, by cases
pub cond_holds : {A : Type 0} (P : A → Type 0) (b : Bool) (x y : A) → (b ≡ true → P x) → (b ≡ false → P y) →
    P (if b then x else y)
cond_holds P b x y first second = cond_both b x y P first second

pub in_range_below : (v : Layout) (f : ℕ) → is_fragment_in_range v f ≡ true → f < v.size
unfolding is_fragment_in_range
in_range_below v f h = grind (arith, nat_tests)

-- each fragment of a Run in range is ok
pub each_ok : (v : Layout) (start len k : ℕ) → is_run_in_range v start len ≡ true → k < len →
    is_fragment_in_range v (start + k) ≡ true
unfolding is_run_in_range
each_ok v start len k h low = (and_parts (is_fragment_in_range v (start + k)) _ (all_below-at len k _ h low)).0

-- what `len` offers leave as it is, how far counts rise, and which of the offers are kept
pub record Keeps (s s' : Claims) (len : ℕ) : Type 0 where
  pub used_length : length s'.used ≡ length s.used
  pub duplicates_length : length s'.duplicates ≡ length s.duplicates
  pub runs_is : s'.runs ≡ s.runs
  pub bad_is : s'.bad ≡ s.bad
  pub dup_offers_low : s.dup_offers ≤ s'.dup_offers
  pub dup_offers_cap : s.dup_offers ≤ 11 → s'.dup_offers ≤ 11
  pub kept_low : s.kept ≤ s'.kept
  pub most : s'.kept ≤ s.kept + len
  -- the first one, unless eleven were dup before it
  pub first : s.dup_offers < 11 → 0 < len → s.kept < s'.kept
  -- each dup one
  pub rise : s'.dup_offers + s.kept ≤ s'.kept + s.dup_offers
  -- all, if the eleventh dup offer is none of them
  pub whole : s'.dup_offers < 11 → s'.kept ≡ s.kept + len

offer_keeps : (v : Layout) (s : Claims) (f : ℕ) → Keeps s (after_offer v s f) 1
offer_keeps v s f = grind (arith, length-set)

pub offers_keep : (v : Layout) (s : Claims) (fs : List ℕ) → Keeps s (after_offers v s fs) (length fs)
offers_keep v s [] = omega arith
offers_keep v s (f ∷ fs) =
    let one = offer_keeps v s f in
    let more = offers_keep v (after_offer v s f) fs in
    omega arith

-- no offer lowers the potential, and one in range is kept no more often than it raises it
offer_raises : (v : Layout) (s : Claims) (f : ℕ) → length s.used ≡ v.size →
    (potential s ≤ potential (after_offer v s f)) × (is_fragment_in_range v f ≡ true →
    (after_offer v s f).kept + potential s ≤ s.kept + potential (after_offer v s f))
offer_raises v s f h = grind (arith, in_range_below, sum_by-set)

offers_raise : (v : Layout) (s : Claims) (fs : List ℕ) → length s.used ≡ v.size →
    (potential s ≤ potential (after_offers v s fs))
    × (((k : ℕ) → k < length fs → is_fragment_in_range v (slice_index fs k) ≡ true) →
    (after_offers v s fs).kept + potential s ≤ s.kept + potential (after_offers v s fs))
offers_raise v s [] h = (omega arith, λ ok. omega arith)
offers_raise v s (f ∷ fs) h =
    let one = offer_raises v s f h in
    let more = offers_raise v (after_offer v s f) fs ((offer_keeps v s f).used_length ∙ h) in
    (omega arith, λ ok. omega (arith, one.1 (ok 0 (omega arith)), more.1 (λ k low. ok (suc k) (omega arith))))

pub stays : (s : Claims) → ClaimBound s s
stays s = omega arith

run_moves : (v : Layout) (s : Claims) (start len : ℕ) → length s.used ≡ v.size → 0 < len → len ≤ 8 →
    nat_lt s.bad 11 ≡ true → nat_lt s.dup_offers 11 ≡ true →
    ClaimBound s (after_run v s start len)
run_moves v s start len h some small few more_dups =
    let seen : Claims = record s { runs = s.runs + 1 } in
    let bad : Claims = record s { runs = s.runs + 1; bad = s.bad + 1 } in
    let keep = offers_keep v seen (range_with_len start len) in
    let keep_bad = offers_keep v bad (range_with_len start len) in
    let raise = offers_raise v seen (range_with_len start len) h in
    let raise_bad = (offers_raise v bad (range_with_len start len) h).0 in
    grind (arith, nat_tests, length-range_with_len, get_or-range_with_len, each_ok)

pub step_moves : (v : Layout) (s : Claims) (step : Step) → length s.used ≡ v.size → v.frag ≤ 8 → HasLength v.frag step →
    ClaimBound s (after_step v s step)
step_moves v s (Run start len block) h small some = grind (arith, run_moves)
step_moves v s Tail h small some = cond_holds (ClaimBound s) (is_open s) _ _ (λ _. omega arith) (λ _. stays s)
step_moves v s Gap h small some = stays s

-- one step after the other
pub moves_then : (s t u : Claims) → ClaimBound s t → ClaimBound t u → ClaimBound s u
moves_then s t u a b = omega arith

pub steps_move : (v : Layout) (s : Claims) (steps : List Step) → length s.used ≡ v.size → v.frag ≤ 8 →
    All (HasLength v.frag) steps → ClaimBound s (after_steps v s steps)
steps_move v s [] h small long = stays s
steps_move v s (step ∷ steps) h small long =
    let one = step_moves v s step h small (All-head (HasLength v.frag) step steps long) in
    let more = steps_move v (after_step v s step) steps (one.used_length ∙ h) small
    (All-tail (HasLength v.frag) step steps long) in
    omega arith

-- the steps of an inode
pub owner_moves : (v : Layout) (image : List ℕ) (s : Claims) (x : ℕ) → IsAcceptedLayout v → length s.used ≡ v.size →
    ClaimBound (at_next_inode s) (after_owner v s (owner_of v image x))
unfolding owner_of
owner_moves v image s x g h = grind (arith, steps_move, steps_long)

-- how many offers an inode keeps
pub kept_bound : (s0 s : Claims) (size : ℕ) → length s.used ≡ size → s0.bad ≤ 11 → s0.dup_offers ≤ 11 → s0.kept ≡ 0 →
    ClaimBound s0 s → s.kept ≤ size + 99
kept_bound s0 s size h bad dups none m = grind (arith, count_by-le-length)
