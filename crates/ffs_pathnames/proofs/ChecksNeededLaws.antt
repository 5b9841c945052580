-- Which directories need a check in phase 2, by the bytes of the image.
use Rattle.std.proofs.Common.{◌≡◌, ℕ, ◌+◌, ◌<◌, ◌≤◌, ◌*◌, ◌==◌, Bool, true, false, not, ◌&&◌, ◌||◌, List, [], ◌∷◌, ap}
use Rattle.std.proofs.Common.{arith, inl, inr, refl, slice_index, length, get_or-set_same, get_or-set_other, set}
use Rattle.std.proofs.lemmas.{Bool.{both_ways, cases_Bool, true_from_ne_false, Decides.nat_tests}, List.get_or_past}
use Rattle.ffs_volume.specs.{declared.Layout.Layout, Encodings.Lists.bool_at, Directories.PathnameCheck.is_sized_dir}
use Rattle.ffs_volume.specs.Directories.{Roles.{RoledEntry, Volume}, Volumes.volume_of}
use Rattle.ffs_volume.{proofs.SearchLaws.some_below-from, specs.Costs.Calm.is_calm_directory}
use Rattle.ffs_volume.specs.Costs.DirectoryReads.{directory_cost, noted_directories_cost, is_looked_at, places_cost, costs_below}
use Rattle.ffs_workspace.specs.{declared.workspace.Workspace.Workspace, Holds.HoldsBlockCheck, Leaves.LeavesBlockCheck}
use Rattle.ffs_names.specs.CalmDirs.{FlagsEachCalm}
use Rattle.ffs_pathnames.specs.{Before.IsNonePassed, ChecksNeeded.{ChecksLookedAt, KeepsFlags}}
use Rattle.ffs_pathnames.specs.ChecksNeeded.{needs_check}
use Rattle.ffs_pathnames.specs.PassedNames.{PassedNames, after_entries, after_name, after_roled, is_flagged}
use Rattle.ffs_pathnames.proofs.EmptyLaws.{looked_is}
use Rattle.ffs_survey.proofs.Costs.{cost_skip, cost_take}

-- by a directory's kind, its mark and its flag
not_needed : (k : ℕ) (sized marked calm flag old : Bool) → sized ≡ (k == 4) → (calm ≡ true → old ≡ true) →
    flag ≡ (old && not (marked || (k == 5))) → (sized && (marked || not calm)) ≡ false →
    ((k == 4) && (marked || not flag)) ≡ false
not_needed k sized marked calm flag old s c f h = grind (arith, nat_tests)

-- before the first directory
pub looked_at_first : (v : Layout) (b : List ℕ) (old w : Workspace) → HoldsBlockCheck v b old → FlagsEachCalm v b old →
    IsNonePassed old w → ChecksLookedAt v b w
looked_at_first v b old w claims flags none d h =
    let kinds : slice_index w.kinds.items d ≡ slice_index old.kinds.items d = rw none.survey.findings.block_check.kinds refl in
    let marks : bool_at w.marked.items d ≡ bool_at old.marked.items d = rw none.survey.findings.block_check.marked refl in
    let sized = looked_is v b d in
    let kind = claims.kinds d in
    let mark = claims.marked d in
    let flag = none.flags d in
    let calm = flags.flagged d in
    rw (kinds, marks) (not_needed (slice_index old.kinds.items d) (is_sized_dir (volume_of v b) d) (bool_at old.marked.items d) (is_calm_directory v b d)
    (bool_at w.flags.items d) (bool_at old.flags.items d) (rw kind sized) calm flag (rw mark h))

-- and after a call that takes no flag away
pub looked_at_next : (v : Layout) (b : List ℕ) (old new : Workspace) → LeavesBlockCheck old new → KeepsFlags old new →
    ChecksLookedAt v b old → ChecksLookedAt v b new
looked_at_next v b old new left keeps checks d h =
    let was = checks d h in
    let kinds : slice_index new.kinds.items d ≡ slice_index old.kinds.items d = rw left.kinds refl in
    let marks : bool_at new.marked.items d ≡ bool_at old.marked.items d = rw left.marked refl in
    let more = keeps d in
    grind arith

-- as where only the windows and the words change
pub flags_kept : (old new : Workspace) → new ≡ record old { windows = new.windows; words = new.words } →
    KeepsFlags old new
flags_kept old new lists x set = rw (ap (λ (w : Workspace). w.flags) lists) set

-- one more inode, which is looked at or needs no check
pub look_next : (v : Layout) (b : List ℕ) (w : Workspace) (d lines reads reads' : ℕ) → ChecksLookedAt v b w →
    (needs_check w d ≡ false → reads' ≡ reads) → reads' ≤ reads + (2 * directory_cost v b d + lines) →
    reads' + 2 * costs_below (is_looked_at v b) (directory_cost v b) d
    ≤ reads + (lines + 2 * costs_below (is_looked_at v b) (directory_cost v b) (d + 1))
look_next v b w d lines reads reads' checks none most = elim (cases_Bool (is_looked_at v b d)) [
  | inl looked ↦ omega (arith, most, cost_take (is_looked_at v b) (directory_cost v b) d looked)
  | inr other ↦ omega (arith, none (checks d other), cost_skip (is_looked_at v b) (directory_cost v b) d other)
]

-- where one needs a check, places are noted
pub places_noted : (v : Layout) (b : List ℕ) (w : Workspace) (d : ℕ) → ChecksLookedAt v b w → d < v.ncg * v.ipg →
    needs_check w d ≡ true → places_cost v b ≡ noted_directories_cost v b
places_noted v b w d checks inside needs =
    let looked : is_looked_at v b d ≡ true =
    true_from_ne_false (is_looked_at v b d) (λ no. both_ways (needs_check w d) (checks d no) needs) in
    rw (some_below-from (is_looked_at v b) (v.ncg * v.ipg) d inside looked) refl

-- ---- no flag is taken away by the entries of a directory
flag_inside : (flags : List Bool) (x : ℕ) → bool_at flags x ≡ true → x < length flags
flag_inside flags x h = grind (arith, get_or_past)

flag_name : (vol : Volume) (s : ℕ) (m : PassedNames) (y x : ℕ) → is_flagged m x ≡ true →
    is_flagged (after_name vol s m y) x ≡ true
flag_name vol s m y x h = let inside = flag_inside m.flags x h in grind (arith, nat_tests, get_or-set_same, get_or-set_other)

flag_roled : (vol : Volume) (s : ℕ) (m : PassedNames) (e : RoledEntry) (x : ℕ) → is_flagged m x ≡ true →
    is_flagged (after_roled vol s m e) x ≡ true
flag_roled vol s m e x h = let now = flag_name vol s m e.entry.number x h in grind arith

pub flags_after : (vol : Volume) (s : ℕ) (m : PassedNames) (es : List RoledEntry) (x : ℕ) → is_flagged m x ≡ true →
    is_flagged (after_entries vol s m es) x ≡ true
flags_after vol s m [] x h = h
flags_after vol s m (e ∷ es) x h = flags_after vol s (after_roled vol s m e) es x (flag_roled vol s m e x h)
