-- What the lines of phase 1 say: which inodes they blame, and whether there is a Dup line.
use Rattle.std.proofs.Common.{◌≡◌, inl, inr, ℕ, zero, suc, ◌+◌, ◌<◌, ◌≤◌, Bool, true, false, not, ◌&&◌, ◌||◌, ◌==◌}
use Rattle.std.proofs.Common.{if◌then◌else◌, List, [], ◌∷◌, ◌++◌, length, replicate, slice_set, length-set, ◌≢◌, arith}
use Rattle.std.proofs.{Common.{refl, ap, ◌∙◌, ◌-◌, nat_lt, nat_le, map}, Math.ListN.get_or-eq_default}
use Rattle.std.proofs.lemmas.{Bool.{cases_lt, Decides.nat_tests}, List.{length-replicate, Folds.list_any-append}}
use Rattle.std.{proofs.lemmas.List.Sums.sum_by-set, specs.List.{list_any, range_with_len}}
use Rattle.ffs_volume.proofs.{OwnerLaws.before_next, Potentials.{cond_holds, in_range_below}}
use Rattle.ffs_volume.specs.Blocks.BlockCheck.{class_lines, owner_lines, lines_of_owners, phase1_lines, phase1b_lines}
use Rattle.ffs_volume.specs.Blocks.BlockCheck.{is_dup_line, has_dup_lines, blames, first_offer_lines, is_marked}
use Rattle.ffs_volume.specs.Blocks.{BlockCheck.set_count, Claims.{Claims, no_claims, at_next_inode, is_open, is_set}}
use Rattle.ffs_volume.specs.Blocks.Claims.{after_owner, after_owners, lines_of_steps, after_offer, after_offers}
use Rattle.ffs_volume.specs.Blocks.Claims.{after_run, after_step, all_claims, after_steps, offer_lines, lines_of_offers}
use Rattle.ffs_volume.specs.Blocks.{Claims.{run_lines, step_lines, has_blame}, Inodes.{is_file_or_dir, inodes_of}}
use Rattle.ffs_volume.specs.Blocks.{KeptOffers.Offer, KeptSteps.claims_before, Owners.{Owner, owners_of, owner_of}}
use Rattle.ffs_volume.specs.Directories.Volumes.{is_inode_number, marked_at, marked_by_phase1_at}
use Rattle.ffs_volume.specs.{Disk.Areas.{is_fragment_in_range, is_run_in_range}, declared.BlockMessage.BlockMessage}
use Rattle.ffs_volume.specs.declared.BlockMessage.TheVariants.{Bad, ManyBad, PartTrunc, Dup, ManyDup, PartAlloc}
use Rattle.ffs_volume.specs.declared.{BlockMessage.TheVariants.{UnknownType, BlockCount}, Class.Class}
use Rattle.ffs_volume.specs.declared.{Class.TheVariants.{Partial, Unknown}, Layout.Layout, Step.{Step, TheVariants.Run}}
use Rattle.ffs_volume.specs.declared.Step.TheVariants.{Tail, Gap}
use Rattle.ffs_workspace.{proofs.Leaving.counts_unsurveyed, specs.Holds.{HoldsPhase1, HoldsBlockCheck}}
use Rattle.ffs_workspace.specs.declared.workspace.Workspace.{Workspace}
use Rattle.ffs_claims.proofs.Numbers.{before_first}

-- a fact of two choices by one test, and where one of them takes a second test too
conds_hold : {A B : Type 0} (R : A → B → Type 0) (b : Bool) (x x' : A) (y y' : B) → (b ≡ true → R x y) →
    (b ≡ false → R x' y') → R (if b then x else x') (if b then y else y')
conds_hold R true x x' y y' first second = first refl
conds_hold R false x x' y y' first second = second refl

more_holds : {A B : Type 0} (R : A → B → Type 0) (b more : Bool) (x x' : A) (y y' : B) →
    (b ≡ true → R (if more then x else x') y) → (b ≡ false → R x' y') →
    R (if b && more then x else x') (if b then y else y')
more_holds R true more x x' y y' first second = first refl
more_holds R false more x x' y y' first second = second refl

-- ---- what holds of the offers, Runs and steps of an inode, and of their lines
-- R is of claims, lines and the claims after them. It holds where nothing more is bad or dup, of a dup
-- offer, of a bad Run and of a Tail, of the lines of the inode's class and count, and of two parts one
-- after the other
record HoldsOfEach (v : Layout) (i : ℕ) (R : Claims → List BlockMessage → Claims → Type 0) : Type 0 where
  quiet : (s t : Claims) → t.bad ≡ s.bad → t.dup_offers ≡ s.dup_offers → t.duplicates ≡ s.duplicates → R s [] t
  after : (s t u : Claims) (xs ys : List BlockMessage) → R s xs t → R t ys u → R s (xs ++ ys) u
  dup : (s : Claims) (f : ℕ) (many : Bool) → is_fragment_in_range v f ≡ true →
      R s (Dup f i ∷ (if many then ManyDup i ∷ [] else []))
      (record s { kept = s.kept + 1; dup_offers = s.dup_offers + 1; duplicates = slice_set s.duplicates f true })
  bad : (s : Claims) (start : ℕ) (many : Bool) →
      R s (Bad start i ∷ (if many then ManyBad i ∷ [] else [])) (record s { runs = s.runs + 1; bad = s.bad + 1 })
  tail : (s : Claims) (first : Bool) → R s (if first then PartTrunc i ∷ [] else []) (record s { tail = true })
  partial : (s : Claims) → R s (PartAlloc i ∷ []) s
  unknown : (s : Claims) → R s (UnknownType i ∷ []) s
  count : (s : Claims) (found right : ℕ) → R s (BlockCount i found right ∷ []) s

module _ {v : Layout} {i : ℕ} {R : Claims → List BlockMessage → Claims → Type 0} (p : HoldsOfEach v i R) where
  none : (s : Claims) → R s [] s
  none s = p.quiet s s refl refl refl

  offer_holds : (s : Claims) (f : ℕ) → R s (offer_lines v i s f) (after_offer v s f)
  offer_holds s f =
      more_holds (R s) (nat_lt s.dup_offers 11) _ _ _ _ _
      (λ _. more_holds (R s) (is_fragment_in_range v f) (is_set s.used f) _ _ _ _
      (λ ok. conds_hold (R s) (is_set s.used f) _ _ _ _ (λ _. p.dup s f (s.dup_offers == 10) ok)
      (λ _. p.quiet s _ refl refl refl)) (λ _. p.quiet s _ refl refl refl)) (λ _. none s)

  offers_hold : (s : Claims) (fs : List ℕ) → R s (lines_of_offers v i s fs) (after_offers v s fs)
  offers_hold s [] = none s
  offers_hold s (f ∷ fs) = p.after s _ _ _ _ (offer_holds s f) (offers_hold (after_offer v s f) fs)

  run_holds : (s : Claims) (start len : ℕ) → R s (run_lines v i s start len) (after_run v s start len)
  run_holds s start len =
      let fs = range_with_len start len in
      conds_hold (R s) (is_run_in_range v start len) _ _ _ _
      (λ _. p.after s _ _ [] _ (p.quiet s _ refl refl refl) (offers_hold (record s { runs = s.runs + 1 }) fs))
      (λ _. conds_hold (λ ls. R s (Bad start i ∷ ls)) (s.bad == 10) _ _ _ _ (λ _. p.bad s start true)
      (λ _. p.after s _ _ (Bad start i ∷ []) _ (p.bad s start false)
      (offers_hold (record s { runs = s.runs + 1; bad = s.bad + 1 }) fs)))

  step_holds : (s : Claims) (step : Step) → R s (step_lines v i s step) (after_step v s step)
  step_holds s Gap = none s
  step_holds s Tail = more_holds (R s) (is_open s) (not s.tail) _ _ _ _ (λ _. p.tail s (not s.tail)) (λ _. none s)
  step_holds s (Run start len block) = conds_hold (R s) (is_open s) _ _ _ _ (λ _. run_holds s start len) (λ _. none s)

  steps_hold : (s : Claims) (steps : List Step) → R s (lines_of_steps v i s steps) (after_steps v s steps)
  steps_hold s [] = none s
  steps_hold s (step ∷ steps) = p.after s _ _ _ _ (step_holds s step) (steps_hold (after_step v s step) steps)

  class_holds : (s : Claims) (class : Class) → R s (class_lines i class) s
  class_holds s Partial = p.partial s
  class_holds s Unknown = p.unknown s
  class_holds s other = none s

owner_holds : {v : Layout} {R : Claims → List BlockMessage → Claims → Type 0} (o : Owner) → HoldsOfEach v o.number R →
    (s : Claims) → R (at_next_inode s) (owner_lines v s o) (after_owner v s o)
owner_holds {v = v} {R = R} o p s =
    let end = after_owner v s o in
    p.after _ _ _ _ _ (class_holds p (at_next_inode s) o.class) (p.after _ _ _ _ _
    (steps_hold p (at_next_inode s) o.steps)
    (cond_holds (λ ls. R end ls end) (is_file_or_dir o.class && (is_open end && not (o.blocks == _))) _ _
    (λ _. p.count end _ _) (λ _. none p end)))

-- ---- blame
abbrev blamed : ℕ → ℕ → Claims → Bool
blamed x i s = (i == x) && has_blame s

abbrev Blames : ℕ → ℕ → Claims → List BlockMessage → Claims → Type 0
Blames x i s lines t = (list_any (blames x) lines || blamed x i s) ≡ blamed x i t

blames_hold : (v : Layout) (x i : ℕ) → HoldsOfEach v i (Blames x i)
blames_hold v x i = grind (arith, list_any-append)

owner_blames : (v : Layout) (x : ℕ) (s : Claims) (o : Owner) → list_any (blames x) (owner_lines v s o)
    ≡ blamed x o.number (after_owner v s o)
owner_blames v x s o = let all = owner_holds o (blames_hold v x o.number) s in grind arith

-- whether the lines of phase 1 on the inode x blame it
abbrev blame_at : Layout → List ℕ → ℕ → Bool
blame_at v bytes x = has_blame (after_owner v (claims_before v bytes x) (owner_of v bytes x))

-- x is n, or one of the k numbers after it
next_one : (n x k : ℕ) (b c : Bool) → (n ≡ x → b ≡ c) →
    (((n == x) && b) || ((nat_le (n + 1) x && nat_lt x (n + 1 + k)) && c)) ≡ ((nat_le n x && nat_lt x (n + suc k)) && c)
next_one n x k b c same = grind (arith, nat_tests)

-- of the inodes one after another
owners_blame : (v : Layout) (bytes : List ℕ) (x n k : ℕ) → 2 ≤ n →
    list_any (blames x) (lines_of_owners v (claims_before v bytes n) (map (owner_of v bytes) (range_with_len n k)))
    ≡ ((nat_le n x && nat_lt x (n + k)) && blame_at v bytes x)
unfolding owner_of
owners_blame v bytes x n zero low = grind (arith, nat_tests)
owners_blame v bytes x n (suc k) low =
    let s = claims_before v bytes n in
    let o = owner_of v bytes n in
    let both = list_any-append (blames x) (owner_lines v s o)
    (lines_of_owners v (after_owner v s o) (map (owner_of v bytes) (range_with_len (n + 1) k))) in
    let one = owner_blames v x s o in
    let more = rw (before_next v bytes n low) at (owners_blame v bytes x (n + 1) k (omega arith)) in
    let all = next_one n x k (blame_at v bytes n) (blame_at v bytes x) (ap (blame_at v bytes)) in
    cc

first_blames : (v : Layout) (bytes : List ℕ) (x : ℕ) → is_inode_number v x ≡ true →
    list_any (blames x) (phase1_lines v (owners_of v bytes)) ≡ blame_at v bytes x
unfolding phase1_lines owners_of
first_blames v bytes x inside =
    let all : (nat_le 2 x && nat_lt x (2 + (inodes_of v - 2))) ≡ true = grind (arith, nat_tests) in
    rw (← before_first v bytes, owners_blame v bytes x 2 (inodes_of v - 2) (omega arith), all) refl

-- an inode is marked by phase 1, or by phase 1b
pub marked_total : (v : Layout) (bytes : List ℕ) (x : ℕ) → marked_at v bytes x ≡ (marked_by_phase1_at v bytes x
    || (is_inode_number v x && list_any (blames x) (phase1b_lines v (owners_of v bytes))))
unfolding marked_by_phase1_at is_marked
marked_total v bytes x = grind (arith, list_any-append, first_blames)

-- ---- whether there is a Dup line
-- some bit is set
abbrev pub any_set : List Bool → Bool
any_set bits = not (set_count bits == 0)

set_any : (bits : List Bool) (f : ℕ) → f < length bits → any_set (slice_set bits f true) ≡ true
set_any bits f h =
    let set = sum_by-set (λ b. if b then 1 else 0) bits f true false h in
    let clear = sum_by-set (λ b. if b then 1 else 0) bits f false false h in
    let some : 0 < set_count (slice_set bits f true) = omega arith in
    grind (arith, nat_tests)

abbrev DupsAreReported : Claims → List BlockMessage → Claims → Type 0
DupsAreReported s lines t = ((list_any is_dup_line lines || any_set s.duplicates) ≡ any_set t.duplicates) ×
    (length t.duplicates ≡ length s.duplicates)

dups_then : (s t u : Claims) (xs ys : List BlockMessage) → DupsAreReported s xs t → DupsAreReported t ys u →
    DupsAreReported s (xs ++ ys) u
dups_then s t u xs ys p q = let both = list_any-append is_dup_line xs ys in (grind arith, q.1 ∙ p.1)

dups_hold : (v : Layout) (i : ℕ) →
    HoldsOfEach v i (λ s lines t. length s.duplicates ≡ v.size → DupsAreReported s lines t)
dups_hold v i = grind (arith, dups_then, in_range_below, set_any, length-set)

owners_dups : (v : Layout) (s : Claims) (os : List Owner) → length s.duplicates ≡ v.size →
    DupsAreReported s (lines_of_owners v s os) (after_owners v s os)
owners_dups v s [] h = (refl, refl)
owners_dups v s (o ∷ os) h =
    let one = owner_holds o (dups_hold v o.number) s h in
    dups_then s (after_owner v s o) (after_owners v (after_owner v s o) os) (owner_lines v s o)
    (lines_of_owners v (after_owner v s o) os) one (owners_dups v (after_owner v s o) os (one.1 ∙ h))

none_set : (n : ℕ) → set_count (replicate n false) ≡ 0
none_set zero = refl
none_set (suc n) = none_set n

-- there is a Dup line exactly where a fragment is marked
pub rescan_is : (v : Layout) (image : List ℕ) →
    any_set (all_claims v image).duplicates ≡ has_dup_lines v (owners_of v image)
unfolding all_claims phase1_lines no_claims
rescan_is v image =
    let all = owners_dups v (no_claims v) (owners_of v image) (length-replicate v.size false) in
    let clear : any_set (replicate v.size false) ≡ false = ap (λ n. not (n == 0)) (none_set v.size) in
    grind arith

-- ---- what is left to report
pub none_clear : (bits : List Bool) (f : ℕ) → set_count bits ≡ 0 → is_set bits f ≡ false
none_clear bits f e = elim (cases_lt f (length bits)) [
  | inl low ↦ clear (is_set bits f) _ (sum_by-set (λ b. if b then 1 else 0) bits f false false low ∙ ap (λ n. n + 0) e)
  | inr past ↦ get_or-eq_default bits false past
]
  where
    clear : (b : Bool) (n : ℕ) → n + (if b then 1 else 0) ≡ 0 → b ≡ false
    clear b n h = grind (arith, nat_tests)

pub none_first : (bits : List Bool) (os : List Offer) → set_count bits ≡ 0 → first_offer_lines bits os ≡ []
none_first bits [] e = refl
none_first bits (o ∷ os) e = grind (arith, none_clear, none_first bits os)

-- where there is no Dup line, phase 1 leaves what phase 1b would
pub no_rescan : (v : Layout) (image : List ℕ) (w : Workspace) → has_dup_lines v (owners_of v image) ≡ false →
    HoldsPhase1 v image w → HoldsBlockCheck v image w
unfolding all_claims phase1b_lines
no_rescan v image w none h = grind (arith, counts_unsurveyed, marked_total, none_first, rescan_is)

-- whether something is left to report
pub some_left : (n : ℕ) (some : Bool) → some ≡ not (n == 0) → some ≡ true → n ≢ 0
some_left n some e t none = absurd (grind (arith, nat_tests))

pub none_left : (n : ℕ) (some : Bool) → some ≡ not (n == 0) → some ≡ false → n ≡ 0
none_left n some e f = grind (arith, nat_tests)
