-- What a workspace holds is held by one with the same findings.
use Rattle.std.{proofs.{Common.{arith, ◌≡◌, ℕ, List, false, true}, lemmas.Bool.both_ways}, specs.Prelude.slice_index}
use Rattle.ffs_volume.specs.{declared.Layout.Layout, Encodings.Links.start_at}
use Rattle.ffs_workspace.specs.{declared.workspace.Workspace.Workspace, Holds.{HoldsBlockCheck, HoldsCounts}}
use Rattle.ffs_workspace.specs.Holds.{HoldsFindings, HoldsReferences, HoldsSurvey, HoldsTree, IsFresh}
use Rattle.ffs_workspace.specs.Leaves.{LeavesBlockCheck, LeavesAllButPlaces, LeavesSurvey}

pub leaves_all : (w : Workspace) → LeavesSurvey w w
leaves_all w = grind arith

-- what two calls leave
pub leaves_more : {a b c : Workspace} → LeavesSurvey a b → LeavesSurvey b c → LeavesSurvey a c
leaves_more {a} {b} {c} s t = grind arith

pub block_check_kept : (w : Workspace) → LeavesBlockCheck w w
block_check_kept w = grind arith

-- what two calls leave
pub block_check_more : (a b c : Workspace) → LeavesBlockCheck a b → LeavesBlockCheck b c → LeavesBlockCheck a c
block_check_more a b c s t = grind arith

-- where only the windows and a list that the survey makes have changed
pub words_leave : (old new : Workspace) → new ≡ record old { windows = new.windows; words = new.words } →
    LeavesBlockCheck old new
words_leave old new e = grind arith

-- where only the windows have changed
pub windows_leave : (old new : Workspace) → new ≡ record old { windows = new.windows } → LeavesSurvey old new
windows_leave old new e = grind arith

-- nothing is surveyed: counts of references are where they start
pub counts_unsurveyed : (v : Layout) (b : List ℕ) (w : Workspace) → w.surveyed ≡ false →
    ((x : ℕ) → slice_index w.references.items x ≡ start_at v b x) → HoldsCounts v b w
unfolding HoldsCounts
counts_unsurveyed v b w e h = (λ _. h, λ t. absurd (both_ways w.surveyed e t))

pub counts_begin : (v : Layout) (b : List ℕ) (w : Workspace) → HoldsCounts v b w → w.surveyed ≡ false →
    (x : ℕ) → slice_index w.references.items x ≡ start_at v b x
unfolding HoldsCounts
counts_begin v b w h e = h.0 e

-- all is surveyed
pub counts_surveyed : (v : Layout) (b : List ℕ) (w : Workspace) → w.surveyed ≡ true → HoldsReferences v b w →
    HoldsTree v b w → HoldsCounts v b w
unfolding HoldsCounts
counts_surveyed v b w e references tree = (λ f. absurd (both_ways w.surveyed f e), λ _. (references, tree))

pub counts_stand : (v : Layout) (b : List ℕ) (w : Workspace) → HoldsCounts v b w → w.surveyed ≡ true →
    HoldsReferences v b w × HoldsTree v b w
unfolding HoldsCounts
counts_stand v b w h e = h.1 e

-- references, as far as they are counted, where the lists that hold them are as they were
pub counts_same : (v : Layout) (b : List ℕ) (old new : Workspace) → new.references ≡ old.references →
    new.surveyed ≡ old.surveyed → new.named ≡ old.named → new.reached ≡ old.reached → new.parents ≡ old.parents →
    HoldsCounts v b old → HoldsCounts v b new
unfolding HoldsCounts
counts_same v b old new references surveyed named reached parents h = grind arith

pub findings_claims : (v : Layout) (b : List ℕ) (old new : Workspace) → LeavesAllButPlaces old new →
    HoldsBlockCheck v b old → HoldsBlockCheck v b new
unfolding HoldsCounts
findings_claims v b old new s h = grind arith

pub claims_left : (v : Layout) (b : List ℕ) (old new : Workspace) → LeavesSurvey old new → HoldsBlockCheck v b old →
    HoldsBlockCheck v b new
claims_left v b old new s h = findings_claims v b old new s.findings h

pub survey_left : (v : Layout) (b : List ℕ) (old new : Workspace) → LeavesSurvey old new → HoldsSurvey v b old →
    HoldsSurvey v b new
survey_left v b old new s h =
    record { tree = let tree : HoldsTree v b old = h.tree in grind arith; places = s.places v b h.places }

pub references_left : (v : Layout) (b : List ℕ) (old new : Workspace) → LeavesSurvey old new →
    HoldsReferences v b old → HoldsReferences v b new
references_left v b old new s h = grind arith

-- and so where only the windows have changed
pub fresh_held : (v : Layout) (old new : Workspace) → new ≡ record old { windows = new.windows } → IsFresh v old →
    IsFresh v new
fresh_held v old new e h = grind arith

pub claims_held : (v : Layout) (b : List ℕ) (old new : Workspace) → new ≡ record old { windows = new.windows } →
    HoldsBlockCheck v b old → HoldsBlockCheck v b new
claims_held v b old new e h = claims_left v b old new (windows_leave old new e) h

pub survey_held : (v : Layout) (b : List ℕ) (old new : Workspace) → new ≡ record old { windows = new.windows } →
    HoldsSurvey v b old → HoldsSurvey v b new
survey_held v b old new e h = survey_left v b old new (windows_leave old new e) h

pub findings_held : (v : Layout) (b : List ℕ) (old new : Workspace) → new ≡ record old { windows = new.windows } →
    HoldsFindings v b old → HoldsFindings v b new
findings_held v b old new e h = grind (arith, claims_held, survey_held, references_left, windows_leave)
