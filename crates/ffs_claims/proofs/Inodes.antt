-- How an inode's part of the block check continues, and how many Runs it is seen to have.
use Rattle.std.proofs.Common.{◌+◌, ◌<◌, false, arith, OnOk, ◌≡◌, ℕ, List, [], ◌∷◌, ◌++◌, append-nil, Option, Result, Ok}
use Rattle.std.proofs.{Common.{refl, ◌≤◌, true}, lemmas.{Bool.Decides.nat_tests, List.Sums.count_by-le-length}}
use Rattle.ffs_volume.{proofs.{Potentials.step_moves, ReplayLaws.offers_runs}, specs.Blocks.BlockCheck.class_lines}
use Rattle.ffs_volume.specs.Blocks.{BlockCheck.{count_lines, owner_lines}, Claims.{Claims, at_next_inode, after_steps}}
use Rattle.ffs_volume.specs.Blocks.{Claims.{lines_of_steps, is_open, after_step}, Inodes.class_of, Steps.steps_of}
use Rattle.ffs_volume.specs.Laws.{ClaimBounds.{used_bits, ClaimBound}, Geometry.IsAcceptedLayout, RunLengths.HasLength}
use Rattle.ffs_volume.specs.{Messages.Kinds.Message, declared.{Class.{Class, TheVariants.Free}, Inode.Inode}}
use Rattle.ffs_volume.specs.declared.{Layout.Layout, Step.{Step, TheVariants.{Gap, Run, Tail}}}
use Rattle.ffs_report.{proofs.Reporting.{of_part, of_begins, of_stops}, specs.PhaseOutcome.{FirstMessages, SaidOf}}
use Rattle.ffs_report.specs.{Progress.{Progress, Said, Stopped}, declared.fault.RunFault.RunFault}
use Rattle.ffs_image.specs.{Known.ForBytes, Device.Device}
use Rattle.ffs_layout.specs.declared.geometry.Geometry.{Geometry}
use Rattle.ffs_walk.specs.{Windows.KeepsBlocks, declared.blocks.Blocks.Blocks}
use Rattle.ffs_claims.proofs.{Frames.{found_none, ready_walked, stay_then}, StepsContinue.lines_append}
use Rattle.ffs_claims.specs.{Area.IsDataArea, Claiming.{CanClaim, ClaimsInArea, FewRuns, StepsLeave, CanSeeNext}}
use Rattle.ffs_claims.specs.{Bounds.{inode_bound, step_bound}, Leaves.HasBegun, Lines.{of_lines, owner_with}}
use Rattle.ffs_claims.specs.{Lines.counted_owner, declared.area.DataArea.DataArea}
use Rattle.ffs_maps.proofs.Bits.{bits_long}
use Rattle.ffs_workspace.specs.{Holds.claims_of, Lengths.IsFor, declared.workspace.Workspace.Workspace}

-- ---- how many Runs an inode is seen to have, and how many offers it keeps
-- a step more keeps the bound
pub moves_on : {v : Layout} {s0 s' : Claims} {w : Workspace} (step : Step) → IsFor v w → v.frag ≤ 8 →
    HasLength v.frag step → s' ≡ after_step v (claims_of w) step → ClaimBound s0 (claims_of w) → ClaimBound s0 s'
moves_on {v = v} {s0 = s0} {w = w} step made small some now before = grind (arith, step_moves, bits_long)

-- at most the volume's fragments are used
pub used_below : {v : Layout} {w : Workspace} → IsFor v w → used_bits (claims_of w) ≤ v.size
used_below {w = w} made = grind (arith, bits_long, count_by-le-length)

-- a Run that is seen is one more, a step has one at most, and steps have none less
pub run_more : (v : Layout) (s : Claims) (start len : ℕ) (block : Option ℕ) → is_open s ≡ true →
    (after_step v s (Run start len block)).runs ≡ s.runs + 1
run_more v s start len block uncut = grind (arith, offers_runs)

pub step_most : (v : Layout) (s : Claims) (step : Step) → (after_step v s step).runs ≤ s.runs + 1
step_most v s (Run start len block) = grind (arith, offers_runs)
step_most v s Tail = grind arith
step_most v s Gap = omega arith

step_rises : (v : Layout) (s : Claims) (step : Step) → s.runs ≤ (after_step v s step).runs
step_rises v s (Run start len block) = grind (arith, offers_runs)
step_rises v s Tail = grind arith
step_rises v s Gap = omega arith

pub steps_rise : (v : Layout) (s : Claims) (steps : List Step) → s.runs ≤ (after_steps v s steps).runs
steps_rise v s [] = omega arith
steps_rise v s (step ∷ steps) = omega (arith, step_rises v s step, steps_rise v (after_step v s step) steps)

-- how many Runs are seen, and how many offers are kept, while an inode isn't cut
pub seen_bound : {v : Layout} (u : Workspace) {w : Workspace} → IsFor v w → is_open (claims_of w) ≡ true →
    ClaimBound (claims_of u) (claims_of w) → w.runs_seen + used_bits (claims_of u) + 2 ≤ u.runs_seen + v.size + 22
seen_bound u {w = w} made free m = grind (arith, nat_tests, used_below)

-- so there is room to count them
pub sees_next : {v : Layout} {u w : Workspace} {area : DataArea} → IsAcceptedLayout v → HasBegun u → IsFor v w →
    IsDataArea v area → is_open (claims_of w) ≡ true → ClaimBound (claims_of u) (claims_of w) →
    CanSeeNext v w area step_bound
sees_next {u = u} g begun made all_in_range uncut m = grind (arith, seen_bound)

-- ---- where the claiming of its steps is, before it ends
abbrev pub Claiming : Layout → Device → Workspace → Workspace → DataArea → Type 0
Claiming v d u w area = StepsLeave {T = Unit {0}} v d u w area (Ok tt)

-- nothing is claimed yet, a walk took its next step, and something was claimed
pub claiming_none : {v : Layout} {d : Device} {w : Workspace} {area : DataArea} → CanClaim v d w area →
    Claiming v d w w area
claiming_none {w = w} can = let few = used_below can.ready.ready.made in let same = found_none w in grind arith

pub claiming_walked : {g k : Geometry} {d d' : Device} {u w : Workspace} {b : Blocks} {area : DataArea} → d' ≡ d →
    k ≡ g → KeepsBlocks k.layout d'.contents w.windows.blocks b → Claiming g.layout d u w area →
    Claiming g.layout d' u (record w { windows = record w.windows { blocks = b } }) area
claiming_walked e same kept p = let ready = ready_walked e same kept p.claim.ready in grind arith

pub claiming_on : {T : Type 0} {r : Result T RunFault} {v : Layout} {d : Device} {u w w' : Workspace}
    {area area' : DataArea} → ClaimsInArea v w w' area' → FewRuns v u w' →
    OnOk r (ClaimBound (claims_of u) (claims_of w')) → Claiming v d u w area → StepsLeave v d u w' area' r
claiming_on left few moves p =
    let used = stay_then p.found.used left.only.found.used in
    let duplicates = stay_then p.found.duplicates left.only.found.duplicates in
    grind arith

-- ---- its lines
-- the lines of an inode's steps and of its count, once its class is reported
abbrev pub rest_lines : Layout → ℕ → Inode → Class → Claims → List ℕ → List Message
rest_lines v number i class s1 bytes =
    of_lines (lines_of_steps v number s1 (steps_of v i bytes))
    ++ of_lines (count_lines v (counted_owner number class i.blocks) (after_steps v s1 (steps_of v i bytes)))

parts : (v : Layout) (number : ℕ) (i : Inode) (s : Claims) (bytes : List ℕ) →
    of_lines (owner_lines v s (owner_with v bytes number i)) ≡ of_lines (class_lines number (class_of v i))
    ++ rest_lines v number i (class_of v i) (at_next_inode s) bytes
parts v number i s bytes = grind (arith, lines_append)

pub class_said : {knows : List ℕ → Type 0} {a b : Progress} {s1 : Claims} {class : Class} (v : Layout) (number : ℕ)
    (i : Inode) (s : Claims) → s1 ≡ at_next_inode s → class ≡ class_of v i →
    Said a b (of_lines (class_lines number class)) →
    SaidOf knows (rest_lines v number i class s1) (λ bytes. of_lines (owner_lines v s (owner_with v bytes number i))) a
    b
class_said v number i s e k q = grind (arith, parts)

pub class_stopped : {knows : List ℕ → Type 0} {a b : Progress} {class : Class} (v : Layout) (number : ℕ) (i : Inode)
    (s : Claims) → class ≡ class_of v i → Stopped a b (of_lines (class_lines number class)) →
    FirstMessages knows (λ bytes. of_lines (owner_lines v s (owner_with v bytes number i))) (Stopped a b)
class_stopped v number i s k q = of_stops _ _ (rest_lines v number i (class_of v i) (at_next_inode s))
    _ _ _ _ _ of_begins (λ bytes t. parts v number i s bytes) (rw k at q)

-- its steps are reported then, and the count's line is that of the claims that are there
pub steps_reported : {knows : List ℕ → Type 0} {a b c : Progress} {s1 s2 : Claims} {class : Class} (v : Layout)
    (number : ℕ) (i : Inode) (s : Claims) → s1 ≡ at_next_inode s → class ≡ class_of v i →
    Said a b (of_lines (class_lines number class)) →
    SaidOf knows (λ bytes. []) (λ bytes. of_lines (lines_of_steps v number s1 (steps_of v i bytes))) b c →
    ForBytes knows (λ bytes. s2 ≡ after_steps v s1 (steps_of v i bytes)) →
    SaidOf knows (λ bytes. of_lines (count_lines v (counted_owner number class i.blocks) s2) ++ [])
    (λ bytes. of_lines (owner_lines v s (owner_with v bytes number i))) a c
steps_reported v number i s e k q steps h = of_part (class_said v number i s e k q)
    (λ bytes t. rw (h bytes t, append-nil) refl) steps

-- the Runs that were seen are as they were, and how many fragments are used
pub record SameRuns (u w : Workspace) : Type 0 where
  pub seen : w.runs_seen ≡ u.runs_seen
  pub used : used_bits (claims_of w) ≡ used_bits (claims_of u)

pub begun_runs : (u : Workspace) {w : Workspace} → w ≡ record u { bad = 0; dup_offers = 0; kept = 0; tail = false } →
    SameRuns u w
begun_runs u e = rw e (record { seen = refl; used = refl })

pub stored_runs : (u : Workspace) {w : Workspace} →
    w ≡ record u { kinds = w.kinds; marked = w.marked; notes = w.notes; references = w.references } → SameRuns u w
stored_runs u e = rw e (record { seen = refl; used = refl })

pub begun : (u : Workspace) {w : Workspace} → w ≡ record u { bad = 0; dup_offers = 0; kept = 0; tail = false } →
    u.runs_seen < inode_bound → HasBegun w
begun u e few = rw e (record { bad = refl; dup_offers = refl; kept = refl; runs = omega arith })

-- a free inode has no steps
pub free_steps : (v : Layout) (i : Inode) (bytes : List ℕ) → class_of v i ≡ Free → steps_of v i bytes ≡ []
unfolding steps_of
free_steps v i bytes h = rw h refl
